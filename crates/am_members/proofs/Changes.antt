-- What an index has of each group, as one of its lists changes, and over a list of groups.
use Rattle.std.proofs.Common.{◌≡◌, ◌<◌, ◌||◌, ◌+◌, ℕ, Bool, true, false, cond, inl, inr, List, [], ◌∷◌, Option, Some, None, Ordering, length, take, get_or, refl, sym, ap, ◌∙◌}
use Rattle.std.specs.BTreeMap.{insert_entry}
use Rattle.std.specs.Cmp.{Equal-is}
use Rattle.std.specs.List.{list_any}
use Rattle.std.specs.Ordering.{is_eq, match_ordering}
use Rattle.std.specs.declared.cmp.Ordering.TheVariants.{Less, Equal, Greater}
use Rattle.std.specs.List.Sorted.{IsStrictlySortedBy}
use Rattle.std.specs.Map.{keys_of, lookup}
use Rattle.std.specs.Option.{IfSome, is_some, unwrap_or}
use Rattle.std.proofs.lemmas.Bool.{cases_Bool, false≢true}
use Rattle.std.proofs.lemmas.List.Folds.{list_any_at, list_any_more}
use Rattle.am_labels.specs.declared.Label.{Label}
use Rattle.am_labels.specs.Labels.{labels_cmp, labels_total}
use Rattle.am_members.specs.declared.group.Group.{Group}
use Rattle.am_members.specs.Grouped.{AreFull, AreFullBut, held_at, listed}
use Rattle.am_members.specs.Members.{is_bare}
use Rattle.am_members.specs.Names.{is_group, is_set, without}
use Rattle.am_members.proofs.Orders.{group_tells, group-refl, group-sym, set-refl}
use Rattle.am_members.proofs.Tables.{put_found, put_there, put_twice}

-- lists of members by group
abbrev Lists : Type 0
Lists = List (Group × List (List Label × ℕ))

-- the list of a group was written
pub list_written : (old new : Lists) (g : Group) (was now : List (List Label × ℕ)) (f : List (List Label × ℕ) → List (List Label × ℕ))
    → ((q : Group) → lookup (is_group q) new ≡ cond (is_group g q) (Some now) (lookup (is_group q) old))
    → was ≡ held_at g old → now ≡ f was
    → (q : Group) → held_at q new ≡ cond (is_group q g) (f (held_at q old)) (held_at q old)
list_written old new g was now f look found write q = elim (group_tells q g) [
  | inl y ↦ ap listed (look q) ∙ rw (group-sym g q, y.0) (write ∙ ap f (found ∙ ap (λ k. held_at k old) (sym y.1)))
  | inr n ↦ ap listed (look q) ∙ rw (group-sym g q, n.0) refl
]

-- a group that isn't listed has nothing to leave out
pub list_missed : (old : Lists) (g : Group) (l : List Label) → lookup (is_group g) old ≡ None
    → (q : Group) → held_at q old ≡ cond (is_group q g) (without l (held_at q old)) (held_at q old)
list_missed old g l none q = elim (group_tells q g) [
  | inl y ↦
      let bare : held_at q old ≡ [] = ap (λ k. held_at k old) y.1 ∙ ap listed none in
      rw (y.0, bare) refl
  | inr n ↦ rw n.0 refl
]

-- a list without members went
pub list_dropped : (old new : Lists) (g : Group) → ((q : Group) → lookup (is_group q) new ≡ cond (is_group g q) None (lookup (is_group q) old))
    → is_bare (held_at g old) ≡ true → (q : Group) → held_at q new ≡ held_at q old
list_dropped old new g look bare q = elim (group_tells q g) [
  | inl y ↦ ap listed (look q) ∙ rw (group-sym g q, y.0) (sym (ap (λ k. held_at k old) y.1 ∙ none_in (held_at g old) bare))
  | inr n ↦ ap listed (look q) ∙ rw (group-sym g q, n.0) refl
]
  where
    none_in : (ms : List (List Label × ℕ)) → is_bare ms ≡ true → ms ≡ []
    none_in [] h = refl
    none_in (m ∷ ms) h = absurd (false≢true h)

-- ---- groups that are listed have members

-- the list of a group was written
pub full_but : (old new : Lists) (g : Group) (now : List (List Label × ℕ))
    → ((q : Group) → lookup (is_group q) new ≡ cond (is_group g q) (Some now) (lookup (is_group q) old)) → AreFull old → AreFullBut g new
full_but old new g now look full q apart = rw (look q, group-sym g q, apart) (full q)

-- .. with members
pub full_written : (old new : Lists) (g : Group) (now : List (List Label × ℕ))
    → ((q : Group) → lookup (is_group q) new ≡ cond (is_group g q) (Some now) (lookup (is_group q) old)) → is_bare now ≡ false → AreFull old → AreFull new
full_written old new g now look some full q = elim (group_tells q g) [
  | inl y ↦ rw (look q, group-sym g q, y.0) some
  | inr n ↦ rw (look q, group-sym g q, n.0) (full q)
]

-- a list went
pub full_dropped : (old new : Lists) (g : Group) → ((q : Group) → lookup (is_group q) new ≡ cond (is_group g q) None (lookup (is_group q) old))
    → AreFullBut g old → AreFull new
full_dropped old new g look full q = elim (group_tells q g) [
  | inl y ↦ rw (look q, group-sym g q, y.0) tt
  | inr n ↦ rw (look q, group-sym g q, n.0) (full q n.0)
]

-- a list stayed that has members
pub full_there : (lists : Lists) (g : Group) → is_bare (held_at g lists) ≡ false → AreFullBut g lists → AreFull lists
full_there lists g there full q = elim (group_tells q g) [
  | inl y ↦ rw y.1 (found (lookup (is_group g) lists) there)
  | inr n ↦ full q n.0
]
  where
    found : (o : Option (List (List Label × ℕ))) → is_bare (listed o) ≡ false → IfSome o (λ ms. is_bare ms ≡ false)
    found None h = tt
    found (Some ms) h = h

-- the same lists
pub full_same : (n m : Lists) → AreFull m → n ≡ m → AreFull n
full_same n m full same = rw same full

-- who joined is there
pub some_joined : (l : List Label) (since : ℕ) (ms : List (List Label × ℕ)) → is_bare (insert_entry labels_cmp ms l since) ≡ false
some_joined l since [] = refl
some_joined l since (m ∷ ms) = by_order (labels_cmp l m.0)
  where
    by_order : (o : Ordering) → is_bare (match_ordering o ((l, since) ∷ m ∷ ms) ((m.0, since) ∷ ms) (m ∷ insert_entry labels_cmp ms l since)) ≡ false
    by_order Less = refl
    by_order Equal = refl
    by_order Greater = refl

-- what a look-up gives, or else a new list without members
pub listed_or : (o : Option (List (List Label × ℕ))) (fresh : List (List Label × ℕ)) → fresh ≡ [] → unwrap_or o fresh ≡ listed o
listed_or None fresh none = none
listed_or (Some ms) fresh none = refl

-- what is held in equal lists
pub held_same : (q : Group) (n m : Lists) (ms : List (List Label × ℕ)) → held_at q m ≡ ms → n ≡ m → held_at q n ≡ ms
held_same q n m ms held same = ap (held_at q) same ∙ held

-- ---- over a list of groups

-- a change that is made where either of two tests passes
again : {A : Type 0} (f : A → A) → (twice : (x : A) → f (f x) ≡ f x) → (a b : Bool) (x y z : A) → y ≡ cond a (f x) x → z ≡ cond b (f y) y → z ≡ cond (a || b) (f x) x
again f twice true true x y z first then = then ∙ ap f first ∙ twice x
again f twice true false x y z first then = then ∙ first
again f twice false true x y z first then = then ∙ ap f first
again f twice false false x y z first then = then ∙ first

pub change_next : {A : Type 0} (f : A → A) → (twice : (x : A) → f (f x) ≡ f x) → (q : Group) (gs : List Group) (i : ℕ) (d : Group) (x y z : A) → i < length gs
    → y ≡ cond (list_any (is_group q) (take i gs)) (f x) x → z ≡ cond (is_group q (get_or gs i d)) (f y) y → z ≡ cond (list_any (is_group q) (take (i + 1) gs)) (f x) x
change_next f twice q gs i d x y z within first then = again f twice (list_any (is_group q) (take i gs)) (is_group q (get_or gs i d)) x y z first then ∙ ap (λ b. cond b (f x) x) (sym (list_any_more (is_group q) gs i d within))

-- what left twice left once
pub without-without : {X : Type 0} (l : List Label) (es : List (List Label × X)) → without l (without l es) ≡ without l es
without-without l [] = refl
without-without l (e ∷ es) = elim (cases_Bool (is_set l e.0)) [
  | inl y ↦ rw y (without-without l es)
  | inr n ↦ rw (n, n) (ap (λ rest. e ∷ rest) (without-without l es))
]

-- ---- joining

-- a label set is the same as itself
pub equal_itself : (l : List Label) → labels_cmp l l ≡ Equal
equal_itself l = tied_equal (labels_cmp l l) (set-refl l)
  where
    tied_equal : (o : Ordering) → is_eq o ≡ true → o ≡ Equal
    tied_equal o h = (Equal-is o).0 h

-- an alert that joined twice joined once
pub joined_twice : (l : List Label) (since : ℕ) (ms : List (List Label × ℕ)) → insert_entry labels_cmp (insert_entry labels_cmp ms l since) l since ≡ insert_entry labels_cmp ms l since
joined_twice l since ms = put_twice labels_cmp l since (equal_itself l) ms

-- an alert that has joined some groups is in no group, or in it since then
pub may_join : (l : List Label) (since : ℕ) (b : Bool) (was now : List (List Label × ℕ)) → lookup (is_set l) was ≡ None → now ≡ cond b (insert_entry labels_cmp was l since) was → IfSome (lookup (is_set l) now) (λ held. held ≡ since)
may_join l since true was now absent is = rw (is, put_found labels_cmp l since (equal_itself l) was) refl
may_join l since false was now absent is = rw (is, absent) tt

-- a group of the list is found in it
pub is_listed : (gs : List Group) (i : ℕ) (d : Group) → i < length gs → list_any (is_group (get_or gs i d)) gs ≡ true
is_listed gs i d within = list_any_at (is_group (get_or gs i d)) gs i d within (group-refl (get_or gs i d))

-- a member that is there since then is not put anew
pub put_again : (l : List Label) (since : ℕ) (ms : List (List Label × ℕ)) → IsStrictlySortedBy labels_cmp (keys_of ms) → is_some (lookup (is_set l) ms) ≡ true → IfSome (lookup (is_set l) ms) (λ held. held ≡ since) → ms ≡ insert_entry labels_cmp ms l since
put_again l since ms up there same = sym (put_there labels_cmp labels_total l since ms up (found (lookup (is_set l) ms) there same))
  where
    found : (o : Option ℕ) → is_some o ≡ true → IfSome o (λ held. held ≡ since) → o ≡ Some since
    found None h s = absurd (false≢true h)
    found (Some m) h s = ap Some s
