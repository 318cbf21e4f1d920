-- What is found under the name of a message that was sent: that message, whatever is sent later, until it is lost.
use Rattle.std.proofs.Common.{◌≡◌, ℕ, ◌≤◌, ◌<◌, zero, suc, Bool, true, false, ◌&&◌, ◌||◌, not, cond, Contains, List, [], ◌∷◌, ◌++◌, ◌⊎◌, length, get_or, map, filter, find, Option, Some, None, is_some, if◌then◌else◌, refl, sym, ap, subst, ◌∙◌, inl, inr, arith, le_trans}
use Rattle.std.specs.Prelude.{nat_le, ◌==◌}
use Rattle.std.specs.List.{list_any}
use Rattle.std.specs.Option.{option_or}
use Rattle.std.proofs.lemmas.Bool.{and_from, and_parts, eq-eqb, eqb-true, false_from_ne_true, false≢true, le-leb, leb-true, or_from, or_parts}
use Rattle.std.proofs.lemmas.List.Elements.{Contains-append_right}
use Rattle.std.proofs.lemmas.List.Folds.{find-append}
use Rattle.am_item.specs.declared.item.Item.{Item}
use Rattle.am_item.specs.Retirement.{moment_after}
use Rattle.am_cluster.specs.Courses.{after_all}
use Rattle.am_cluster.specs.Happening.{Happening}
use Rattle.am_cluster.specs.Messages.{Message}
use Rattle.am_cluster.specs.Naming.{NamesOnce}
use Rattle.am_setup.specs.Setup.{Origin}
use Rattle.am_cluster.specs.PrivateCluster.{PrivateCluster, here_at, opened}
use Rattle.am_cluster.specs.Reactions.{Reaction, messages_in}
use Rattle.am_cluster.specs.Sent.{Sent, is_lost, is_named, message_life, posted, sent_at, unlost, with_given_up}
use Rattle.am_cluster.specs.SentFacts.{AreNamedOnce, found_as, has_name_of}
use Rattle.am_cluster.proofs.Counted.{IsCounted}
use Rattle.am_cluster.proofs.Named.{named_with, names_are_given_once}

-- ---- elements of lists

pub contained : {X : Type 0} (x : X) (xs : List X) (y : X) → Contains (x ∷ xs) y → (x ≡ y) ⊎ Contains xs y
contained {X} x xs y w = by_place w.0 w.1 w.2
  where
    by_place : (k : ℕ) → k < length (x ∷ xs) → get_or (x ∷ xs) k y ≡ y → (x ≡ y) ⊎ Contains xs y
    by_place zero lt e = inl e
    by_place (suc k) lt e = inr (k, omega (arith, lt), e)

pub contains-map : {X Y : Type 0} (f : X → Y) (xs : List X) (x : X) → Contains xs x → Contains (map f xs) (f x)
contains-map f [] x w = absurd (omega (arith, w.1))
contains-map f (y ∷ ys) x w = elim (contained y ys x w) [
  | inl e ↦ (0, omega arith, ap f e)
  | inr later ↦ Contains-append_right (f y ∷ []) (map f ys) (f x) (contains-map f ys x later)
]

-- an element of a list in which a test finds none doesn't pass it
pub not_any : {X : Type 0} (f : X → Bool) (xs : List X) (x : X) → list_any f xs ≡ false → Contains xs x → f x ≡ false
not_any f [] x e w = absurd (omega (arith, w.1))
not_any f (y ∷ ys) x e w =
    let parts = or_parts (f y) (list_any f ys) e in
    elim (contained y ys x w) [
      | inl here ↦ subst (λ z. f z ≡ false) here parts.0
      | inr later ↦ not_any f ys x parts.1 later
    ]

pub none_found : {X : Type 0} (f : X → Bool) (xs : List X) → list_any f xs ≡ false → find f xs ≡ None
none_found f [] e = refl
none_found f (x ∷ xs) e =
    let parts = or_parts (f x) (list_any f xs) e in
    ap (λ b. cond b (Some x) (find f xs)) parts.0 ∙ none_found f xs parts.1

or_none : {X : Type 0} (o : Option X) → option_or o None ≡ o
or_none None = refl
or_none (Some x) = refl

abbrev unless : {X : Type 0} → (is_lost : Bool) → X → Option X
unless is_lost x = if is_lost then None else Some x

-- ---- names

-- the parts of the name of a message
pub record HasParts (sender era receiver number : ℕ) (m : Message) : Type 0 where
  pub from : m.from ≡ sender
  pub incarnation : m.incarnation ≡ era
  pub to : m.to ≡ receiver
  pub count : m.count ≡ number

pub parts_of : (from incarnation to count : ℕ) (s : Sent) → is_named from incarnation to count s ≡ true
    → HasParts from incarnation to count s.message
parts_of from incarnation to count s e =
    let a = and_parts (s.message.from == from) (s.message.incarnation == incarnation
    && (s.message.to == to && s.message.count == count)) e in
    let b = and_parts (s.message.incarnation == incarnation) (s.message.to == to && s.message.count == count) a.1 in
    let c = and_parts (s.message.to == to) (s.message.count == count) b.1 in
    record {
      from = eqb-true s.message.from from a.0;
      incarnation = eqb-true s.message.incarnation incarnation b.0;
      to = eqb-true s.message.to to c.0;
      count = eqb-true s.message.count count c.1;
    }

pub named_by : (from incarnation to count : ℕ) (s : Sent) → HasParts from incarnation to count s.message
    → is_named from incarnation to count s ≡ true
named_by from incarnation to count s h =
    and_from (s.message.from == from) (s.message.incarnation == incarnation
    && (s.message.to == to && s.message.count == count)) (eq-eqb s.message.from from h.from)
    (and_from (s.message.incarnation == incarnation) (s.message.to == to && s.message.count == count)
    (eq-eqb s.message.incarnation incarnation h.incarnation)
    (and_from (s.message.to == to) (s.message.count == count) (eq-eqb s.message.to to h.to)
    (eq-eqb s.message.count count h.count)))

-- a message that was sent has the name of a message
abbrev pub Has : Message → Sent → Bool
Has m s = is_named m.from m.incarnation m.to m.count s

has_own : (s : Sent) → Has s.message s ≡ true
has_own s =
    named_by s.message.from s.message.incarnation s.message.to s.message.count s
    (record { from = refl; incarnation = refl; to = refl; count = refl })

has_others : (s x : Sent) → Has x.message s ≡ false → Has s.message x ≡ false
has_others s x e = false_from_ne_true (Has s.message x) (λ is.
    let h = parts_of s.message.from s.message.incarnation s.message.to s.message.count x is in
    false≢true (sym e ∙ named_by x.message.from x.message.incarnation x.message.to x.message.count s
    (record { from = sym h.from; incarnation = sym h.incarnation; to = sym h.to; count = sym h.count })))

-- what another message of a list that is named once has as its name, none of the later ones has
none_later : (from incarnation to count : ℕ) (x : Sent) (xs : List Sent) → is_named from incarnation to count x ≡ true
    → has_name_of x.message xs ≡ false → list_any (is_named from incarnation to count) xs ≡ false
none_later from incarnation to count x xs is e =
    let h = parts_of from incarnation to count x is in
    sym (λ d. list_any (is_named (h.from d) (h.incarnation d) (h.to d) (h.count d)) xs) ∙ e

-- ---- messages that are named once

-- under the name of each of them it is found
pub found_once : (xs : List Sent) (s : Sent) → AreNamedOnce xs → Contains xs s → found_as s.message xs ≡ Some s
found_once [] s e w = absurd (omega (arith, w.1))
found_once (x ∷ xs) s e w = elim (contained x xs s w) [
  | inl here ↦
      ap (λ b. cond b (Some x) (found_as s.message xs)) (subst (λ y. Has s.message y ≡ true) (sym here) (has_own s))
      ∙ ap Some here
  | inr later ↦
      ap (λ b. cond b (Some x) (found_as s.message xs)) (has_others s x (not_any (Has x.message) xs s e.0 later))
      ∙ found_once xs s e.1 later
]

pub named_later : (xs ys : List Sent) → AreNamedOnce (xs ++ ys) → AreNamedOnce ys
named_later [] ys e = e
named_later (x ∷ xs) ys e = named_later xs ys e.1

-- a later one has none of the earlier names
pub none_before : (xs ys : List Sent) (s : Sent) → AreNamedOnce (xs ++ ys) → Contains ys s
    → has_name_of s.message xs ≡ false
none_before [] ys s e w = refl
none_before (x ∷ xs) ys s e w =
    or_from (Has s.message x) (has_name_of s.message xs)
    (has_others s x (not_any (Has x.message) (xs ++ ys) s e.0 (Contains-append_right xs ys s w)))
    (none_before xs ys s e.1 w)

-- under names that none of the later ones has, what was found before
pub found_before : (from incarnation to count : ℕ) (xs ys : List Sent)
    → list_any (is_named from incarnation to count) ys ≡ false
    → find (is_named from incarnation to count) (xs ++ ys) ≡ find (is_named from incarnation to count) xs
found_before from incarnation to count xs ys e =
    find-append (is_named from incarnation to count) xs ys
    ∙ ap (option_or (find (is_named from incarnation to count) xs))
    (none_found (is_named from incarnation to count) ys e)
    ∙ or_none (find (is_named from incarnation to count) xs)

pub posted_before : (clock from incarnation to count : ℕ) (xs ys : List Sent)
    → list_any (is_named from incarnation to count) ys ≡ false
    → posted clock from incarnation to count (xs ++ ys) ≡ posted clock from incarnation to count xs
unfolding posted
posted_before clock from incarnation to count xs ys e =
    ap (unlost clock) (found_before from incarnation to count xs ys e)

-- ---- what an instance sends where it reacts

-- a message, as it is sent
abbrev pub as_new : (moment : ℕ) → Message → Sent
as_new moment m = record { message = m; moment = moment; given_up = false }

module _ (p : PrivateCluster) (moment i : ℕ) (r : Reaction) (kept : NamesOnce p) (up : p.roster.up i ≡ true)
    (counted : IsCounted (here_at p moment i) (p.at i) r) where
  -- its messages are named once
  pub new_once : AreNamedOnce (sent_at moment r.said)
  new_once = named_later p.sent (sent_at moment r.said) (named_with p moment i r counted up kept)

  -- the name of each isn't among those sent before
  pub new_unnamed : (m : Message) → Contains (messages_in r.said) m → has_name_of m p.sent ≡ false
  new_unnamed m w =
      none_before p.sent (sent_at moment r.said) (as_new moment m) (named_with p moment i r counted up kept)
      (contains-map (as_new moment) (messages_in r.said) m w)

  pub new_unfound : (m : Message) → Contains (messages_in r.said) m → found_as m p.sent ≡ None
  new_unfound m w = none_found (Has m) p.sent (new_unnamed m w)

  -- .. and it is what is found under it from now on
  pub new_found : (m : Message) → Contains (messages_in r.said) m
      → found_as m (p.sent ++ sent_at moment r.said) ≡ Some (as_new moment m)
  new_found m w =
      found_once (p.sent ++ sent_at moment r.said) (as_new moment m) (named_with p moment i r counted up kept)
      (Contains-append_right p.sent (sent_at moment r.said) (as_new moment m)
      (contains-map (as_new moment) (messages_in r.said) m w))

  -- .. and what is there, until it is lost
  pub new_posted : (clock : ℕ) (m : Message) → Contains (messages_in r.said) m
      → nat_le (moment_after moment message_life) clock ≡ false
      → posted clock m.from m.incarnation m.to m.count (p.sent ++ sent_at moment r.said) ≡ Some m
  unfolding posted
  new_posted clock m w early =
      ap (unlost clock) (new_found m w) ∙ ap (λ b. unless b m) early

-- ---- messages that are given up

module _ (from incarnation to count : ℕ) where
  -- it isn't there any more
  pub posted_given_up : (clock : ℕ) (sent : List Sent)
      → posted clock from incarnation to count (with_given_up from incarnation to count sent) ≡ None
  unfolding posted
  posted_given_up clock [] = refl
  posted_given_up clock (x ∷ xs) =
      by_name (is_named from incarnation to count x) refl (posted_given_up clock xs)
    where
      later : Option Sent
      later = find (is_named from incarnation to count) (with_given_up from incarnation to count xs)

      by_name : (b : Bool) → is_named from incarnation to count x ≡ b → unlost clock later ≡ None
          → unlost clock (cond (is_named from incarnation to count (if b then record x { given_up = true } else x))
          (Some (if b then record x { given_up = true } else x)) later) ≡ None
      by_name true e more = ap (λ b. unlost clock (cond b (Some (record x { given_up = true })) later)) e
      by_name false e more = ap (λ b. unlost clock (cond b (Some x) later)) e ∙ more

  -- under every other name there is what was there
  pub found_besides : (sender era receiver number : ℕ) (sent : List Sent)
      → (from == sender && (incarnation == era && (to == receiver && count == number))) ≡ false
      → find (is_named sender era receiver number) (with_given_up from incarnation to count sent)
      ≡ find (is_named sender era receiver number) sent
  found_besides sender era receiver number [] other = refl
  found_besides sender era receiver number (x ∷ xs) other =
      by_name (is_named from incarnation to count x) refl (found_besides sender era receiver number xs other)
    where
      its : Sent → Bool
      its s = is_named sender era receiver number s

      apart : is_named from incarnation to count x ≡ true → its x ≡ false
      apart e =
          let h = parts_of from incarnation to count x e in
          let same : its x ≡ (from == sender && (incarnation == era && (to == receiver && count == number))) =
          λ d. h.from d == sender && (h.incarnation d == era && (h.to d == receiver && h.count d == number)) in
          same ∙ other

      by_name : (b : Bool) → is_named from incarnation to count x ≡ b
          → find its (with_given_up from incarnation to count xs) ≡ find its xs
          → cond (its (if b then record x { given_up = true } else x))
          (Some (if b then record x { given_up = true } else x))
          (find its (with_given_up from incarnation to count xs)) ≡ cond (its x) (Some x) (find its xs)
      by_name true e more =
          ap (λ b. cond b (Some (record x { given_up = true })) (find its (with_given_up from incarnation to count xs)))
          (apart e) ∙ more ∙ sym (ap (λ b. cond b (Some x) (find its xs)) (apart e))
      by_name false e more = ap (cond (its x) (Some x)) more

  pub posted_besides : (clock sender era receiver number : ℕ) (sent : List Sent)
      → (from == sender && (incarnation == era && (to == receiver && count == number))) ≡ false
      → posted clock sender era receiver number (with_given_up from incarnation to count sent)
      ≡ posted clock sender era receiver number sent
  unfolding posted
  posted_besides clock sender era receiver number sent other =
      ap (unlost clock) (found_besides sender era receiver number sent other)

-- ---- messages that are lost

-- what is lost stays so
pub lost_later : (clock moment : ℕ) (s : Sent) → clock ≤ moment → is_lost clock s ≡ true → is_lost moment s ≡ true
lost_later clock moment s le e = by_given_up s.given_up e
  where
    by_given_up : (b : Bool) → (b || nat_le (moment_after s.moment message_life) clock) ≡ true
        → (b || nat_le (moment_after s.moment message_life) moment) ≡ true
    by_given_up true d = refl
    by_given_up false d =
        le-leb (moment_after s.moment message_life) moment
        (le_trans (leb-true (moment_after s.moment message_life) clock d) le)

pub unlost_before : (clock moment : ℕ) (s : Sent) → clock ≤ moment → is_lost moment s ≡ false → is_lost clock s ≡ false
unlost_before clock moment s le e =
    false_from_ne_true (is_lost clock s) (λ lost. false≢true (sym e ∙ lost_later clock moment s le lost))

-- what is found, where it isn't lost
abbrev pub left_of : (clock : ℕ) → Option Sent → Option Sent
left_of clock None = None
left_of clock (Some s) = if is_lost clock s then None else Some s

-- what is there at a moment is what is left of what was there before
pub unlost_later : (clock moment : ℕ) (o : Option Sent) → clock ≤ moment
    → unlost moment o ≡ unlost moment (left_of clock o)
unlost_later clock moment None le = refl
unlost_later clock moment (Some s) le = by_lost (is_lost clock s) refl
  where
    by_lost : (b : Bool) → is_lost clock s ≡ b → unlost moment (Some s) ≡ unlost moment (unless b s)
    by_lost true e = ap (λ b. unless b s.message) (lost_later clock moment s le e)
    by_lost false e = refl

pub posted_is_left : (clock moment from incarnation to count : ℕ) (sent : List Sent) → clock ≤ moment
    → posted moment from incarnation to count sent
    ≡ unlost moment (left_of clock (find (is_named from incarnation to count) sent))
unfolding posted
posted_is_left clock moment from incarnation to count sent le =
    unlost_later clock moment (find (is_named from incarnation to count) sent) le

unlost_earlier : (clock moment : ℕ) (o : Option Sent) (m : Message) → clock ≤ moment → unlost moment o ≡ Some m
    → unlost clock o ≡ Some m
unlost_earlier clock moment None m le e = e
unlost_earlier clock moment (Some s) m le e = by_lost (is_lost moment s) refl e
  where
    by_lost : (b : Bool) → is_lost moment s ≡ b → unless b s.message ≡ Some m → unlost clock (Some s) ≡ Some m
    by_lost true lost same = absurd (false≢true (ap is_some same))
    by_lost false lost same = ap (λ b. unless b s.message) (unlost_before clock moment s le lost) ∙ same

-- what is there at a moment was there before
pub posted_earlier : (clock moment from incarnation to count : ℕ) (sent : List Sent) (m : Message) → clock ≤ moment
    → posted moment from incarnation to count sent ≡ Some m → posted clock from incarnation to count sent ≡ Some m
unfolding posted
posted_earlier clock moment from incarnation to count sent m le e =
    unlost_earlier clock moment (find (is_named from incarnation to count) sent) m le e

-- ---- without the lost ones

abbrev pub left_at : (clock : ℕ) → List Sent → List Sent
left_at clock sent = filter (λ (s : Sent). not (is_lost clock s)) sent

none_left : (f : Sent → Bool) (clock : ℕ) (xs : List Sent) → list_any f xs ≡ false
    → list_any f (left_at clock xs) ≡ false
none_left f clock [] e = refl
none_left f clock (x ∷ xs) e =
    let parts = or_parts (f x) (list_any f xs) e in
    by_lost (is_lost clock x) parts.0 (none_left f clock xs parts.1)
  where
    by_lost : (b : Bool) → f x ≡ false → list_any f (left_at clock xs) ≡ false
        → list_any f (if not b then x ∷ left_at clock xs else left_at clock xs) ≡ false
    by_lost true here more = more
    by_lost false here more = or_from (f x) (list_any f (left_at clock xs)) here more

-- the others are named once
pub left_named : (clock : ℕ) (xs : List Sent) → AreNamedOnce xs → AreNamedOnce (left_at clock xs)
left_named clock [] e = tt
left_named clock (x ∷ xs) e =
    by_lost (is_lost clock x) (none_left (Has x.message) clock xs e.0) (left_named clock xs e.1)
  where
    by_lost : (b : Bool) → has_name_of x.message (left_at clock xs) ≡ false → AreNamedOnce (left_at clock xs)
        → AreNamedOnce (if not b then x ∷ left_at clock xs else left_at clock xs)
    by_lost true here more = more
    by_lost false here more = (here, more)

-- .. and what is found among them is what was found, where it isn't lost
pub left_found : (from incarnation to count clock : ℕ) (xs : List Sent) → AreNamedOnce xs
    → find (is_named from incarnation to count) (left_at clock xs)
    ≡ left_of clock (find (is_named from incarnation to count) xs)
left_found from incarnation to count clock [] e = refl
left_found from incarnation to count clock (x ∷ xs) e =
    by_both (its x) refl (is_lost clock x) refl (left_found from incarnation to count clock xs e.1)
  where
    its : Sent → Bool
    its s = is_named from incarnation to count s

    by_both : (b : Bool) → its x ≡ b → (lost : Bool) → is_lost clock x ≡ lost
        → find its (left_at clock xs) ≡ left_of clock (find its xs)
        → find its (if not lost then x ∷ left_at clock xs else left_at clock xs)
        ≡ left_of clock (cond b (Some x) (find its xs))
    by_both true is true lost more =
        more ∙ ap (left_of clock) (none_found its xs (none_later from incarnation to count x xs is e.0))
        ∙ sym (ap (λ b. unless b x) lost)
    by_both true is false lost more =
        ap (λ b. cond b (Some x) (find its (left_at clock xs))) is ∙ sym (ap (λ b. unless b x) lost)
    by_both false is true lost more = more
    by_both false is false lost more = ap (λ b. cond b (Some x) (find its (left_at clock xs))) is ∙ more

-- so that lost ones may be forgotten
pub left_posted : (from incarnation to count clock moment : ℕ) (xs : List Sent) → AreNamedOnce xs → clock ≤ moment
    → posted moment from incarnation to count (left_at clock xs) ≡ posted moment from incarnation to count xs
unfolding posted
left_posted from incarnation to count clock moment xs e le =
    ap (unlost moment) (left_found from incarnation to count clock xs e)
    ∙ sym (unlost_later clock moment (find (is_named from incarnation to count) xs) le)

-- ---- whatever happened

pub sent_is_found : (origin : Origin) (tenant : List ℕ) (rows : ℕ → List Item) (hs : List Happening) (s : Sent)
    → Contains (after_all (opened origin tenant rows) hs).sent s
    → found_as s.message (after_all (opened origin tenant rows) hs).sent ≡ Some s
sent_is_found origin tenant rows hs s sent =
    found_once (after_all (opened origin tenant rows) hs).sent s (names_are_given_once origin tenant rows hs) sent
