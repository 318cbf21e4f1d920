-- The places of receivers, one receiver after another.
use Rattle.std.proofs.Common.{◌≡◌, ℕ, suc, ◌<◌, ◌+◌, take, drop, get_or, List, [], ◌∷◌, ◌++◌, Bool, true, false, cond, ◌||◌, Some, None, Option, Bor, length, refl, sym, ap, ◌∙◌, ⊎_elim, arith}
use Rattle.std.specs.Prelude.{is_some}
use Rattle.std.specs.BTreeMap.{BTreeMap, get_by}
use Rattle.std.specs.List.{list_any, position_from}
use Rattle.std.specs.Map.{update}
use Rattle.std.specs.Option.{option_or}
use Rattle.std.specs.Ordering.{nat_cmp}
use Rattle.std.specs.Str.{bytes_eq}
use Rattle.std.specs.Cmp.Lexicographic.{bytes_decides, nat_list_eq_equiv, slice_cmp}
use Rattle.std.proofs.lemmas.Bool.{cases_Bool}
use Rattle.std.proofs.lemmas.Grind.{common_steps}
use Rattle.std.proofs.lemmas.Iterator.Adapters.{position_from-zero}
use Rattle.std.proofs.lemmas.List.{take_more, take-append-drop}
use Rattle.std.proofs.lemmas.List.Folds.{list_any-append}
use Rattle.std.proofs.Math.Seq.{drop-cons}
use Rattle.am_draft.specs.declared.receiver.ReceiverDraft.{ReceiverDraft}
use Rattle.am_config.specs.Checks.{is_listed, is_repeated}
use Rattle.am_config.specs.Places.{place, HasPlaces}

front_or : (n : ℕ) (b : Bool) (p q r : Option ℕ) → p ≡ option_or q r → cond b (Some n) p ≡ option_or (cond b (Some n) q) r
front_or n true p q r e = refl
front_or n false p q r e = e

front_any : (n : ℕ) (b : Bool) (p : Option ℕ) (c : Bool) → is_some p ≡ c → is_some (cond b (Some n) p) ≡ (b || c)
front_any n true p c e = refl
front_any n false p c e = e

from_push : {A : Type 0} (t : A → Bool) (i : ℕ) (xs : List A) (y : A) →
    position_from t i (xs ++ y ∷ []) ≡ option_or (position_from t i xs) (cond (t y) (Some (i + length xs)) None)
from_push t i [] y = ap (λ n. cond (t y) (Some n) None) (omega arith)
from_push t i (x ∷ xs) y =
    let same : i + 1 + length xs ≡ i + length (x ∷ xs) = omega arith in
    front_or i (t x) _ _ _ (rw (← same) (from_push t (i + 1) xs y))

from_any : {A : Type 0} (t : A → Bool) (i : ℕ) (xs : List A) → is_some (position_from t i xs) ≡ list_any t xs
from_any t i [] = refl
from_any t i (x ∷ xs) = front_any i (t x) (position_from t (i + 1) xs) (list_any t xs) (from_any t (i + 1) xs)

-- a receiver of a name has a place exactly where one is listed
pub listed : (receivers : List ReceiverDraft) (name : List ℕ) → is_some (place receivers name) ≡ is_listed receivers name
listed receivers name =
    let test = λ (receiver : ReceiverDraft). bytes_eq receiver.name name in
    ap is_some (position_from-zero test receivers) ∙ from_any test 0 receivers

-- with one receiver more
pub place_push : (receivers : List ReceiverDraft) (receiver : ReceiverDraft) (name : List ℕ) →
    place (receivers ++ receiver ∷ []) name
    ≡ option_or (place receivers name) (cond (bytes_eq receiver.name name) (Some (length receivers)) None)
place_push receivers receiver name =
    let test = λ (r : ReceiverDraft). bytes_eq r.name name in
    let size : 0 + length receivers ≡ length receivers = omega arith in
    position_from-zero test (receivers ++ receiver ∷ [])
    ∙ from_push test 0 receivers receiver
    ∙ ap (λ n. option_or (position_from test 0 receivers) (cond (test receiver) (Some n) None)) size
    ∙ ap (λ o. option_or o (cond (test receiver) (Some (length receivers)) None)) (sym (position_from-zero test receivers))

or_front : (f b l c : Bool) → b ≡ true → ((f || (b || l)) || c) ≡ true
or_front true b l c e = refl
or_front false true l c e = refl
or_front false false l c e = absurd (cc)

or_back : (a c : Bool) → c ≡ true → (a || c) ≡ true
or_back true c e = refl
or_back false c e = e

or_none : (f b c : Bool) → f ≡ false → b ≡ false → c ≡ false → ((f || (b || false)) || c) ≡ false
or_none true b c e h k = absurd (cc)
or_none false true c e h k = absurd (cc)
or_none false false c e h k = k

left_none : (a b : Bool) → (a || b) ≡ false → a ≡ false
left_none true b e = absurd (cc)
left_none false b e = refl

right_none : (a b : Bool) → (a || b) ≡ false → b ≡ false
right_none true b e = absurd (cc)
right_none false b e = e

-- a receiver whose name stands before it
pub repeats : (front back : List ReceiverDraft) (receiver : ReceiverDraft) → is_listed front receiver.name ≡ true →
    is_repeated (front ++ receiver ∷ back) ≡ true
unfolding is_repeated
repeats [] back receiver has = absurd (cc)
repeats (first ∷ front) back receiver has =
    let test = λ (r : ReceiverDraft). bytes_eq r.name first.name in
    let rest = is_repeated (front ++ receiver ∷ back) in
    let turned = nat_list_eq_equiv.symm first.name receiver.name in
    ⊎_elim
    (λ same. ap (λ b. b || rest) (list_any-append test front (receiver ∷ back))
    ∙ or_front (list_any test front) (test receiver) (list_any test back) rest (sym turned ∙ same))
    (λ other. or_back (list_any test (front ++ receiver ∷ back)) rest (repeats front back receiver (rw other at has)))
    (cases_Bool (bytes_eq first.name receiver.name))

-- one whose name doesn't
pub repeats_push : (front : List ReceiverDraft) (receiver : ReceiverDraft) → is_repeated front ≡ false → is_listed front receiver.name ≡ false →
    is_repeated (front ++ receiver ∷ []) ≡ false
unfolding is_repeated
repeats_push [] receiver apart new = refl
repeats_push (first ∷ front) receiver apart new =
    let test = λ (r : ReceiverDraft). bytes_eq r.name first.name in
    let rest = is_repeated (front ++ receiver ∷ []) in
    let turned = nat_list_eq_equiv.symm first.name receiver.name in
    let other = left_none (bytes_eq first.name receiver.name) (is_listed front receiver.name) new in
    let later = right_none (bytes_eq first.name receiver.name) (is_listed front receiver.name) new in
    ap (λ b. b || rest) (list_any-append test front (receiver ∷ []))
    ∙ or_none (list_any test front) (test receiver) rest (left_none (list_any test front) (is_repeated front) apart) (sym turned ∙ other)
    (repeats_push front receiver (right_none (list_any test front) (is_repeated front) apart) later)

none_of : (o : Option ℕ) → is_some o ≡ false → o ≡ None
none_of None e = refl
none_of (Some n) e = absurd (cc)

placed_last : (here : Bool) (before : Option ℕ) (n : ℕ) → (here ≡ true → before ≡ None) →
    cond here (Some n) before ≡ option_or before (cond here (Some n) None)
placed_last true before n new = rw (new refl) refl
placed_last false None n new = refl
placed_last false (Some m) n new = refl

-- whether a name was in the map
pub known : (front : List ReceiverDraft) (places : BTreeMap (Bor (List ℕ)) ℕ) (name key : List ℕ) (old : Option ℕ) → HasPlaces front places →
    key ≡ name → old ≡ get_by (λ other. slice_cmp nat_cmp key other.now) places → is_some old ≡ is_listed front name
known front places name key old has same is = ap is_some (is ∙ has key ∙ ap (place front) same) ∙ listed front name

-- the map, once a name that is new to it has the next place
places_push : (front : List ReceiverDraft) (receiver : ReceiverDraft) (old new : BTreeMap (Bor (List ℕ)) ℕ) (key : List ℕ) (n : ℕ) → HasPlaces front old →
    is_listed front receiver.name ≡ false → key ≡ receiver.name → n ≡ length front →
    ((name : List ℕ) → get_by (λ other. slice_cmp nat_cmp name other.now) new
    ≡ update bytes_eq (λ before. get_by (λ other. slice_cmp nat_cmp before other.now) old) key (Some n) name) →
    HasPlaces (front ++ receiver ∷ []) new
places_push front receiver old new key n has absent same next updates = λ name.
    let before : bytes_eq receiver.name name ≡ true → place front name ≡ None =
    λ (e : bytes_eq receiver.name name ≡ true). ap (place front) (sym ((bytes_decides receiver.name name).0 e))
    ∙ none_of (place front receiver.name) (listed front receiver.name ∙ absent) in
    updates name
    ∙ ap (λ k. cond (bytes_eq k name) (Some n) (get_by (λ other. slice_cmp nat_cmp name other.now) old)) same
    ∙ ap (λ m. cond (bytes_eq receiver.name name) (Some m) (get_by (λ other. slice_cmp nat_cmp name other.now) old)) next
    ∙ ap (λ o. cond (bytes_eq receiver.name name) (Some (length front)) o) (has name)
    ∙ placed_last (bytes_eq receiver.name name) (place front name) (length front) before
    ∙ sym (place_push front receiver name)

module _ (receivers : List ReceiverDraft) (i : ℕ) (receiver : ReceiverDraft) (within : i < length receivers) (is : receiver ≡ get_or receivers i receiver) where
  more : take (i + 1) receivers ≡ take i receivers ++ receiver ∷ []
  more = take_more receivers i receiver within ∙ ap (λ r. take i receivers ++ r ∷ []) (sym is)

  parted : receivers ≡ take i receivers ++ (receiver ∷ drop (i + 1) receivers)
  parted =
      let next : suc i ≡ i + 1 = omega arith in
      sym (take-append-drop i receivers) ∙ ap (λ rest. take i receivers ++ rest) (drop-cons receivers i receiver within ∙ rw (← is, next))

  -- a name that stands before is one of two receivers
  pub repeats_at : is_listed (take i receivers) receiver.name ≡ true → is_repeated receivers ≡ true
  repeats_at has = ap is_repeated parted ∙ repeats (take i receivers) (drop (i + 1) receivers) receiver has

  pub apart_more : is_repeated (take i receivers) ≡ false → is_listed (take i receivers) receiver.name ≡ false →
      is_repeated (take (i + 1) receivers) ≡ false
  apart_more apart absent = ap is_repeated more ∙ repeats_push (take i receivers) receiver apart absent

  pub places_more : (old new : BTreeMap (Bor (List ℕ)) ℕ) (key : List ℕ) → HasPlaces (take i receivers) old →
      is_listed (take i receivers) receiver.name ≡ false → key ≡ receiver.name →
      ((name : List ℕ) → get_by (λ other. slice_cmp nat_cmp name other.now) new
      ≡ update bytes_eq (λ before. get_by (λ other. slice_cmp nat_cmp before other.now) old) key (Some i) name) →
      HasPlaces (take (i + 1) receivers) new
  places_more old new key has absent same updates = λ name.
      let size : i ≡ length (take i receivers) = grind (arith, common_steps) in
      places_push (take i receivers) receiver old new key i has absent same size updates name
      ∙ ap (λ xs. place xs name) (sym more)
