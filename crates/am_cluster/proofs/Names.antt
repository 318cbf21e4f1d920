-- The names of messages, and that what one instance sends has others than what was sent.
use Rattle.std.proofs.Common.{◌≡◌, ◌≢◌, ℕ, ◌+◌, ◌≤◌, ◌<◌, false, All, List, [], ◌∷◌, ◌++◌, map, refl, sym, subst, ◌∙◌, inl, inr, arith, le_refl}
use Rattle.std.specs.Prelude.{◌==◌}
use Rattle.std.proofs.lemmas.List.Elements.{All-append, All-cons, All-head, All-nil, All-tail, All-weaker}
use Rattle.std.proofs.lemmas.Bool.{and_left, and_right, cases_eq, ne_eqb, or_from, or_parts}
use Rattle.am_cluster.specs.Messages.{Message}
use Rattle.am_cluster.specs.Sent.{Sent, is_named}
use Rattle.am_cluster.specs.SentFacts.{AreNamedOnce, has_name_of}
use Rattle.am_cluster.proofs.Counted.{Counts}

-- ---- facts of each message of a list

abbrev pub Each : (Message → Type 0) → List Sent → Type 0
Each P sent = All (λ (s : Sent). P s.message) sent

pub Each-nil : (P : Message → Type 0) → Each P []
Each-nil P = All-nil (λ (s : Sent). P s.message)

pub Each-cons : (P : Message → Type 0) (x : Sent) (xs : List Sent) → P x.message → Each P xs → Each P (x ∷ xs)
Each-cons P x xs e d = All-cons (λ (s : Sent). P s.message) x xs e d

pub Each-head : (P : Message → Type 0) (x : Sent) (xs : List Sent) → Each P (x ∷ xs) → P x.message
Each-head P x xs e = All-head (λ (s : Sent). P s.message) x xs e

pub Each-tail : (P : Message → Type 0) (x : Sent) (xs : List Sent) → Each P (x ∷ xs) → Each P xs
Each-tail P x xs e = All-tail (λ (s : Sent). P s.message) x xs e

pub Each-append : (P : Message → Type 0) (xs ys : List Sent) → Each P xs → Each P ys → Each P (xs ++ ys)
Each-append P xs ys e d = All-append (λ (s : Sent). P s.message) xs ys e d

pub Each-map : (P Q : Message → Type 0) (xs : List Sent) → ((m : Message) → P m → Q m) → Each P xs → Each Q xs
Each-map P Q xs f e =
    All-weaker (λ (s : Sent). P s.message) (λ (s : Sent). Q s.message) (λ (s : Sent). f s.message) xs e

-- ---- names

-- a message has another name than one that has a greater count, where both are of one instance and incarnation
pub other_name : (m : Message) (s : Sent)
    → (s.message.from ≡ m.from → s.message.incarnation ≡ m.incarnation → m.count < s.message.count)
    → is_named m.from m.incarnation m.to m.count s ≡ false
other_name m s less =
    elim (cases_eq s.message.from m.from) as (λ _. is_named m.from m.incarnation m.to m.count s ≡ false) [
      | inr other ↦ and_left (s.message.from == m.from) _ (ne_eqb s.message.from m.from other)
      | inl from ↦ elim (cases_eq s.message.incarnation m.incarnation) as (λ _. is_named m.from m.incarnation m.to m.count s ≡ false) [
        | inr other ↦ and_right (s.message.from == m.from) _
            (and_left (s.message.incarnation == m.incarnation) _ (ne_eqb s.message.incarnation m.incarnation other))
        | inl same ↦ and_right (s.message.from == m.from) _ (and_right (s.message.incarnation == m.incarnation) _
            (and_right (s.message.to == m.to) (s.message.count == m.count)
            (ne_eqb s.message.count m.count (greater (less from same)))))
      ]
    ]
  where
    greater : {a b : ℕ} → a < b → b ≢ a
    greater {a} {b} l e = let l' : a < a = subst (λ n. a < n) e l in omega (arith, l')

-- a message has a greater count than another, where both are of one instance and incarnation
abbrev pub IsLater : (m n : Message) → Type 0
IsLater m n = n.from ≡ m.from → n.incarnation ≡ m.incarnation → m.count < n.count

-- none of several messages has the name of one whose count is below theirs
pub no_name : (m : Message) (xs : List Sent) → Each (IsLater m) xs → has_name_of m xs ≡ false
no_name m [] e = refl
no_name m (x ∷ xs) e =
    or_from (is_named m.from m.incarnation m.to m.count x) (has_name_of m xs)
    (other_name m x (Each-head (IsLater m) x xs e)) (no_name m xs (Each-tail (IsLater m) x xs e))

pub none-append : (m : Message) (xs ys : List Sent) → has_name_of m xs ≡ false → has_name_of m ys ≡ false → has_name_of m (xs ++ ys) ≡ false
none-append m [] ys e d = d
none-append m (x ∷ xs) ys e d =
    let parts = or_parts (is_named m.from m.incarnation m.to m.count x) (has_name_of m xs) e in
    or_from (is_named m.from m.incarnation m.to m.count x) (has_name_of m (xs ++ ys)) parts.0 (none-append m xs ys parts.1 d)

pub named-append : (xs ys : List Sent) → AreNamedOnce xs → AreNamedOnce ys → Each (λ m. has_name_of m ys ≡ false) xs → AreNamedOnce (xs ++ ys)
named-append [] ys e d f = d
named-append (x ∷ xs) ys e d f = (
  none-append x.message xs ys e.0 (Each-head (λ m. has_name_of m ys ≡ false) x xs f),
  named-append xs ys e.1 d (Each-tail (λ m. has_name_of m ys ≡ false) x xs f),
)

-- ---- what one instance sends

unfoldable pub as_sent : (moment : ℕ) → List Message → List Sent
as_sent moment ms = map (λ m. record { message = m; moment = moment; given_up = false }) ms

-- a message of the instance in the incarnation, with a count past one and up to another
abbrev pub IsNew : (i k a b : ℕ) → Message → Type 0
IsNew i k a b m = (m.from ≡ i) × (m.incarnation ≡ k) × (a < m.count) × (m.count ≤ b)

pub counts_grow : (i k a b : ℕ) (ms : List Message) → Counts i k a ms b → a ≤ b
counts_grow i k a b [] c = subst (λ n. a ≤ n) c (le_refl a)
counts_grow i k a b (m ∷ ms) c = let more : a + 1 ≤ b = counts_grow i k (a + 1) b ms c.3 in omega (arith, more)

pub all_new : (i k a b moment : ℕ) (ms : List Message) → Counts i k a ms b → Each (IsNew i k a b) (as_sent moment ms)
unfolding as_sent
all_new i k a b moment [] c = Each-nil (IsNew i k a b)
all_new i k a b moment (m ∷ ms) c =
    let count : m.count ≡ a + 1 = c.2 in
    let more : a + 1 ≤ b = counts_grow i k (a + 1) b ms c.3 in
    Each-cons (IsNew i k a b) (record { message = m; moment = moment; given_up = false }) (as_sent moment ms)
    (c.0, c.1, omega (arith, count), omega (arith, count, more))
    (Each-map (IsNew i k (a + 1) b) (IsNew i k a b) (as_sent moment ms)
    (λ n e. let past : a + 1 < n.count = e.2 in (e.0, e.1, omega (arith, past), e.3))
    (all_new i k (a + 1) b moment ms c.3))

pub new_named : (i k a b moment : ℕ) (ms : List Message) → Counts i k a ms b → AreNamedOnce (as_sent moment ms)
unfolding as_sent
new_named i k a b moment [] c = tt
new_named i k a b moment (m ∷ ms) c =
    let count : m.count ≡ a + 1 = c.2 in (
      no_name m (as_sent moment ms)
          (Each-map (IsNew i k (a + 1) b) (IsLater m) (as_sent moment ms)
          (λ n e _ _. let past : a + 1 < n.count = e.2 in omega (arith, count, past)) (all_new i k (a + 1) b moment ms c.3)),
      new_named i k (a + 1) b moment ms c.3,
    )

-- what was sent so far of the instance in the incarnation has counts up to one
abbrev pub IsUpTo : (i k a : ℕ) → Message → Type 0
IsUpTo i k a m = m.from ≡ i → m.incarnation ≡ k → m.count ≤ a

pub more_named : (i k a b moment : ℕ) (ms : List Message) (sent : List Sent) → Counts i k a ms b → AreNamedOnce sent → Each (IsUpTo i k a) sent
    → AreNamedOnce (sent ++ as_sent moment ms)
more_named i k a b moment ms sent c named up_to =
    named-append sent (as_sent moment ms) named (new_named i k a b moment ms c)
    (Each-map (IsUpTo i k a) (λ m. has_name_of m (as_sent moment ms) ≡ false) sent
    (λ m up. no_name m (as_sent moment ms)
    (Each-map (IsNew i k a b) (IsLater m) (as_sent moment ms)
    (λ n e from same.
    let low : m.count ≤ a = up (sym from ∙ e.0) (sym same ∙ e.1) in
    let past : a < n.count = e.2 in
    omega (arith, low, past))
    (all_new i k a b moment ms c)))
    up_to)
