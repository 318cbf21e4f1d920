-- The machine follows requests, their Answers, Puts and Acks, and what an instance takes or drops by itself.
use Rattle.std.proofs.Common.{◌≡◌, ℕ, ◌≤◌, max, if◌then◌else◌, true, false, not, ◌&&◌, inl, inr, subst, sym, ap, arith}
use Rattle.std.specs.Prelude.{◌-◌, ◌==◌}
use Rattle.am_stays.proofs.Machine.{World, Request, Get_arrives, Write, Refuse, Put_arrives, Reply, Close, Accept, Retire}
use Rattle.am_stays.specs.Shadow.{Shadow, after_request, after_get, after_write, after_refuse, after_put, after_reply, after_close, after_accept, after_retire}
use Rattle.am_stays.specs.Happenings.{Asked, Got, Decided, Stored, Replied, Accepted, Retired, is_replica, can}
use Rattle.am_stays.proofs.Tables.{and_left, and_right, or_cases, or_left, or_right, not_true, apart, decide, eq_is, eq_true}
use Rattle.am_stays.proofs.Bounds.{bounded-less, bounded-request}
use Rattle.am_stays.proofs.Merged.{merged-more, merged-retire}
use Rattle.am_stays.proofs.Follows.{Follows, Reached, by-event, replica_up, replica_place}
use Rattle.am_stays.proofs.TiedRequests.{tied-request, tied-get, tied-write, tied-reply, tied-refuse, tied-close}
use Rattle.am_stays.proofs.TiedItems.{tied-put, tied-accept, tied-retire}

different : (j k : ℕ) → not (j == k) ≡ true → j ≡ k → ⊥
different j k h e = apart (j == k) (eq_true j k e) (not_true (j == k) h)

-- who takes an item holds no less
grown : (s : Shadow) (j x k : ℕ) → s.held k ≤ (if k == j then max (s.held j) x else s.held k)
grown s j x k =
    elim (decide (k == j)) [
      | inl c ↦ rw c (omega (arith, ap s.held (eq_is k j c)))
      | inr c ↦ rw c (omega arith)
    ]

pub follow-request : (s : Shadow) (w : World) (n j : ℕ) → Follows s w → can s (Asked n j) ≡ true → Reached (after_request s n (s.known j))
follow-request s w n j f h =
    let new : s.asked n ≡ false = not_true (s.asked n) (and_right (s.up j) (not (s.asked n)) h) in
    by-event s (after_request s n (s.known j)) w (Request n (w.facts.era - s.era_of (s.known j))) f
    (tied-request s w n (s.known j) f.fine f.tied new (f.tied.links.least j)) f.era (bounded-request s n (s.known j) new (f.bounded.known j) f.bounded) f.merged

pub follow-get : (s : Shadow) (w : World) (n j : ℕ) → Follows s w → can s (Got n j) ≡ true → Reached (after_get s n j)
follow-get s w n j f h =
    let a = and_right (s.asked n) ((s.known j == s.epoch n) && (s.settled j && is_replica s j)) h in
    let b = and_right (s.known j == s.epoch n) (s.settled j && is_replica s j) a in
    let c = and_right (s.settled j) (is_replica s j) b in
    let q = replica_place s j c in
    by-event s (after_get s n j) w (Get_arrives n q.0) f
    (tied-get s w n j q.0 f.fine f.tied (and_left (s.asked n) ((s.known j == s.epoch n) && (s.settled j && is_replica s j)) h) (replica_up s j c) (eq_is (s.known j) (s.epoch n) (and_left (s.known j == s.epoch n) (s.settled j && is_replica s j) a)) (and_left (s.settled j) (is_replica s j) b) q.1)
    f.era
    (bounded-less s s.undecided s.before (after_get s n j).answer s.put s.by s.waiting s.ack s.acknowledged s.held s.outlived s.up s.settled s.taken (λ m u. u) f.bounded.put
    (λ m k v y.
    elim (or_cases ((m == n) && ((k == j) && (v == s.held j))) (s.answer m k v) y) [
      | inr z ↦ f.bounded.answered m k v z
      | inl z ↦
          let e : m ≡ n = eq_is m n (and_left (m == n) ((k == j) && (v == s.held j)) z) in
          let g : k ≡ j = eq_is k j (and_left (k == j) (v == s.held j) (and_right (m == n) ((k == j) && (v == s.held j)) z)) in
          (subst (λ i. s.asked i ≡ true) (sym e) (and_left (s.asked n) ((s.known j == s.epoch n) && (s.settled j && is_replica s j)) h), omega (arith, ap s.epoch e, ap s.known g, eq_is (s.known j) (s.epoch n) (and_left (s.known j == s.epoch n) (s.settled j && is_replica s j) a)))
    ])
    f.bounded.taken f.bounded)
    f.merged

pub follow-write : (s : Shadow) (w : World) (n j v k u x : ℕ) → Follows s w → can s (Decided n j v k u x) ≡ true → Reached (after_write s n x)
follow-write s w n j v k u x f h =
    let a = and_right (s.undecided n) (s.answer n j v && (s.answer n k u && (not (j == k) && not (s.put x)))) h in
    let b = and_right (s.answer n j v) (s.answer n k u && (not (j == k) && not (s.put x))) a in
    let c = and_right (s.answer n k u) (not (j == k) && not (s.put x)) b in
    let t =
    tied-write s w n x j v k u f.fine f.tied (and_left (s.undecided n) (s.answer n j v && (s.answer n k u && (not (j == k) && not (s.put x)))) h) (and_left (s.answer n j v) (s.answer n k u && (not (j == k) && not (s.put x))) a) (and_left (s.answer n k u) (not (j == k) && not (s.put x)) b) (different j k (and_left (not (j == k)) (not (s.put x)) c)) (not_true (s.put x) (and_right (not (j == k)) (not (s.put x)) c))
    in
    by-event s (after_write s n x) w (Write n x t.0 t.1 t.2) f t.3 f.era
    (bounded-less s (after_write s n x).undecided s.before s.answer (after_write s n x).put (after_write s n x).by (after_write s n x).waiting s.ack s.acknowledged s.held s.outlived s.up s.settled s.taken
    (λ m u. and_right (not (m == n)) (s.undecided m) u)
    (λ y z. elim (or_cases (y == x) (s.waiting y) z) [ inl c ↦ or_left (y == x) (s.put y) c | inr c ↦ or_right (y == x) (s.put y) (f.bounded.put y c) ]) f.bounded.answered f.bounded.taken f.bounded)
    f.merged

pub follow-refuse : (s : Shadow) (w : World) (n : ℕ) → Follows s w → Reached (after_refuse s n)
follow-refuse s w n f =
    by-event s (after_refuse s n) w (Refuse n) f (tied-refuse s w n f.tied) f.era
    (bounded-less s (after_refuse s n).undecided s.before s.answer s.put s.by s.waiting s.ack s.acknowledged s.held s.outlived s.up s.settled s.taken (λ m u. and_right (not (m == n)) (s.undecided m) u) f.bounded.put f.bounded.answered f.bounded.taken f.bounded)
    f.merged

pub follow-put : (s : Shadow) (w : World) (x j : ℕ) → Follows s w → can s (Stored x j) ≡ true → Reached (after_put s x j)
follow-put s w x j f h =
    let a = and_right (s.put x) ((s.known j == s.epoch (s.by x)) && is_replica s j) h in
    let c = and_right (s.known j == s.epoch (s.by x)) (is_replica s j) a in
    let q = replica_place s j c in
    by-event s (after_put s x j) w (Put_arrives x q.0) f
    (tied-put s w x j q.0 f.fine f.tied (and_left (s.put x) ((s.known j == s.epoch (s.by x)) && is_replica s j) h) (replica_up s j c) (eq_is (s.known j) (s.epoch (s.by x)) (and_left (s.known j == s.epoch (s.by x)) (is_replica s j) a)) q.1)
    f.era
    (bounded-less s s.undecided s.before s.answer s.put s.by s.waiting (after_put s x j).ack s.acknowledged (after_put s x j).held s.outlived s.up s.settled s.taken (λ m u. u) f.bounded.put f.bounded.answered f.bounded.taken f.bounded)
    (merged-more s (after_put s x j).held (grown s j x) f.merged)

pub follow-reply : (s : Shadow) (w : World) (x j k : ℕ) → Follows s w → can s (Replied x j k) ≡ true → Reached (after_reply s x)
follow-reply s w x j k f h =
    let a = and_right (s.waiting x) (s.ack x j && (s.ack x k && not (j == k))) h in
    let b = and_right (s.ack x j) (s.ack x k && not (j == k)) a in
    let t =
    tied-reply s w x j k f.tied (and_left (s.waiting x) (s.ack x j && (s.ack x k && not (j == k))) h) (and_left (s.ack x j) (s.ack x k && not (j == k)) a) (and_left (s.ack x k) (not (j == k)) b) (different j k (and_right (s.ack x k) (not (j == k)) b))
    in
    by-event s (after_reply s x) w (Reply x t.0) f t.1 f.era
    (bounded-less s s.undecided s.before s.answer s.put s.by (after_reply s x).waiting s.ack (after_reply s x).acknowledged s.held s.outlived s.up s.settled s.taken (λ m u. u) (λ y z. f.bounded.put y (and_right (not (y == x)) (s.waiting y) z)) f.bounded.answered f.bounded.taken f.bounded)
    f.merged

pub follow-close : (s : Shadow) (w : World) (x : ℕ) → Follows s w → Reached (after_close s x)
follow-close s w x f =
    by-event s (after_close s x) w (Close x) f (tied-close s w x f.tied) f.era
    (bounded-less s s.undecided s.before s.answer s.put s.by (after_close s x).waiting s.ack s.acknowledged s.held s.outlived s.up s.settled s.taken (λ m u. u) (λ y z. f.bounded.put y (and_right (not (y == x)) (s.waiting y) z)) f.bounded.answered f.bounded.taken f.bounded)
    f.merged

pub follow-accept : (s : Shadow) (w : World) (j x : ℕ) → Follows s w → can s (Accepted j x) ≡ true → Reached (after_accept s j x)
follow-accept s w j x f h =
    let q = replica_place s j h in
    by-event s (after_accept s j x) w (Accept (s.era_of (s.known j)) q.0 x) f (tied-accept s w j x q.0 f.tied (f.tied.links.least j) (replica_up s j h) q.1) f.era
    (bounded-less s s.undecided s.before s.answer s.put s.by s.waiting s.ack s.acknowledged (after_accept s j x).held s.outlived s.up s.settled s.taken (λ m u. u) f.bounded.put f.bounded.answered f.bounded.taken f.bounded)
    (merged-more s (after_accept s j x).held (grown s j x) f.merged)

pub follow-retire : (s : Shadow) (w : World) (j : ℕ) → Follows s w → can s (Retired j) ≡ true → Reached (after_retire s j)
follow-retire s w j f h =
    let q = replica_place s j h in
    by-event s (after_retire s j) w (Retire (s.era_of (s.known j)) q.0) f (tied-retire s w j q.0 f.tied (f.tied.links.least j) (replica_up s j h) q.1) f.era
    (bounded-less s s.undecided s.before s.answer s.put s.by s.waiting s.ack s.acknowledged (after_retire s j).held (after_retire s j).outlived s.up s.settled s.taken (λ m u. u) f.bounded.put f.bounded.answered f.bounded.taken f.bounded)
    (merged-retire s j f.merged)
