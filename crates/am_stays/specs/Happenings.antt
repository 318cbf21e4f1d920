-- What happens in a calm view, and when it can. Nothing else happens: a message that is lost never comes, one that is
-- repeated comes again, and each comes however late.
use Rattle.std.specs.Prelude.{ℕ, suc, zero, Bool, true, not, ◌&&◌, ◌||◌, if◌then◌else◌, nat_lt, ◌==◌, List, [], ◌∷◌}
use Rattle.am_stays.specs.Places.{Place, First, Second, Third}
use Rattle.am_stays.specs.Shadow.{Shadow, has_place, is_calm, after_request, after_get, after_write, after_put}
use Rattle.am_stays.specs.Shadow.{after_reply, after_refuse, after_close, after_accept, after_retire, after_cut}
use Rattle.am_stays.specs.Shadow.{after_piece, after_settle, after_learn, after_epoch, after_join, after_leave}
use Rattle.am_stays.specs.Shadow.{after_crash, after_rise, after_restart, after_stop}

pub data Happening : Type 0 where
  Asked : (n j : ℕ) → Happening  -- request n comes to instance j
  Got : (n j : ℕ) → Happening  -- its Get comes to j
  Decided : (n j v k u x : ℕ) → Happening  -- the Answers of j and k, with stamps v and u, decide it: it makes write x
  Refused : (n : ℕ) → Happening  -- it ends without a write
  Stored : (x j : ℕ) → Happening  -- the Put of write x comes to j
  Replied : (x j k : ℕ) → Happening  -- the Acks of j and k acknowledge it
  Closed : (x : ℕ) → Happening  -- it ends unacknowledged
  Accepted : (j x : ℕ) → Happening  -- j takes an item that no operation sent it: a row, a sent entry, a late piece
  Retired : (j : ℕ) → Happening  -- j drops the key at its retirement
  Listed : (j r pieces piece : ℕ) → Happening  -- j cuts a list for r
  Pieced : (j r p : ℕ) → Happening  -- piece p of j's list comes to r
  Settled : (r : ℕ) → Happening  -- r settles
  Learned : (j : ℕ) → Happening  -- j goes on to the next epoch
  Turned : Happening  -- an epoch begins in which the three stay
  Joined : (i : ℕ) (r : Place) → Happening  -- i joins, and gets place r
  Left : (i : ℕ) (r : Place) → Happening  -- who has place r leaves, and i gets it
  Crashed : (j : ℕ) → Happening  -- j crashes; or, none of the three, leaves
  Restarted : (j : ℕ) → Happening  -- j is restarted; or joins, and the three stay
  Stopped : Happening  -- all stop, and start again

-- the present era
abbrev pub era_now : Shadow → ℕ
era_now s = s.era_of s.present

-- j is up, and one of the three of the era by which it goes
abbrev pub is_replica : Shadow → ℕ → Bool
is_replica s j = s.up j && has_place s (s.era_of (s.known j)) j

-- the test holds of every number below n
abbrev pub all_below : ℕ → (ℕ → Bool) → Bool
all_below zero test = true
all_below (suc n) test = test n && all_below n test

-- r took all pieces of the list that j cut for its epoch and incarnation
abbrev pub has_list : Shadow → ℕ → ℕ → Bool
has_list s r j =
    s.cut j (s.known r) r (s.incarnation r)
    && all_below (s.pieces j (s.known r) r (s.incarnation r)) (λ p. s.taken r j p)

-- .. or is j itself
abbrev pub has_other : Shadow → ℕ → ℕ → Bool
has_other s r j = (j == r) || has_list s r j

-- r took the lists of both others of the three of an era
abbrev pub has_both : Shadow → ℕ → ℕ → Bool
has_both s r g =
    has_other s r (s.member g First) && (has_other s r (s.member g Second) && has_other s r (s.member g Third))

-- When it can happen. Gets and Puts are taken in the epoch of their operation alone; a replica crashes, joins or leaves
-- only while all three are up, settled and go by the present era: so a view is calm.
abbrev pub can : Shadow → Happening → Bool
can s (Asked n j) = s.up j && not (s.asked n)
can s (Got n j) = s.asked n && ((s.known j == s.epoch n) && (s.settled j && is_replica s j))
can s (Decided n j v k u x) =
    s.undecided n && (s.answer n j v && (s.answer n k u && (not (j == k) && not (s.put x))))
can s (Refused n) = true
can s (Stored x j) = s.put x && ((s.known j == s.epoch (s.by x)) && is_replica s j)
can s (Replied x j k) = s.waiting x && (s.ack x j && (s.ack x k && not (j == k)))
can s (Closed x) = true
can s (Accepted j x) = is_replica s j
can s (Retired j) = is_replica s j
can s (Listed j r pieces piece) =
    nat_lt piece pieces && (not (s.cut j (s.known j) r (s.incarnation r)) && (s.settled j && is_replica s j))
can s (Pieced j r p) = s.cut j (s.known r) r (s.incarnation r) && is_replica s r
can s (Settled r) = has_both s r (s.era_of (s.known r)) && is_replica s r
can s (Learned j) = s.up j && nat_lt (s.known j) s.present
can s Turned = true
can s (Joined i r) = is_calm s (era_now s) && not (s.up i)
can s (Left i r) = is_calm s (era_now s) && not (has_place s (era_now s) i)
can s (Crashed j) = s.up j && (is_calm s (era_now s) || not (has_place s (era_now s) j))
can s (Restarted j) = not (s.up j)
can s Stopped = is_calm s (era_now s)

-- what becomes of the shadow
abbrev pub done : Shadow → Happening → Shadow
done s (Asked n j) = after_request s n (s.known j)
done s (Got n j) = after_get s n j
done s (Decided n j v k u x) = after_write s n x
done s (Refused n) = after_refuse s n
done s (Stored x j) = after_put s x j
done s (Replied x j k) = after_reply s x
done s (Closed x) = after_close s x
done s (Accepted j x) = after_accept s j x
done s (Retired j) = after_retire s j
done s (Listed j r pieces piece) = after_cut s j r pieces piece
done s (Pieced j r p) = after_piece s j r p
done s (Settled r) = after_settle s r
done s (Learned j) = after_learn s j
done s Turned = after_epoch s (era_now s) (suc s.present)
done s (Joined i r) = after_join s (era_now s) r i (suc s.present)
done s (Left i r) = after_leave s (era_now s) r i (suc s.present)
done s (Crashed j) = after_crash s j
done s (Restarted j) =
    if has_place s (era_now s) j then after_restart s j s.present else after_rise s j s.present
done s Stopped = after_stop s (era_now s) (suc s.present)

-- What can't happen changes nothing.
abbrev pub shadow_after : Shadow → Happening → Shadow
shadow_after s h = if can s h then done s h else s

abbrev pub shadow_run : List Happening → Shadow → Shadow
shadow_run [] s = s
shadow_run (h ∷ hs) s = shadow_run hs (shadow_after s h)
