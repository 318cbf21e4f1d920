-- Which timers there are once some were set anew or cancelled.
use Rattle.std.proofs.Common.{◌≡◌, ℕ, Bool, true, false, ◌&&◌, ◌||◌, ◌==◌, ◌<◌, ◌+◌, not, List, [], ◌∷◌, ◌++◌, Option, Some, None, length, take, get_or, if◌then◌else◌, refl, sym, ap, ◌∙◌, arith}
use denote.Ref.{Bor}
use Rattle.std.proofs.Common.{map, append_assoc}
use Rattle.std.specs.Map.Iter.{deref}
use Rattle.std.specs.Cmp.{tied_then}
use Rattle.std.specs.Cmp.Lexicographic.{slice_cmp}
use Rattle.std.specs.Ordering.{is_eq, nat_cmp}
use Rattle.std.proofs.lemmas.Bool.{false≢true}
use Rattle.std.proofs.lemmas.Bool.Decides.{nat_tests}
use Rattle.std.proofs.lemmas.List.Folds.{list_any_more}
use Rattle.am_ring.specs.Instances.{is_among}
use Rattle.am_tenant.specs.Names.{same}
use Rattle.am_tenant.proofs.Same.{eq_from_same, is_eq-name_cmp, same-sym}
use Rattle.am_timer.specs.declared.key.TimerKey.TheVariants.{Operation, Group, Retry, Push}
use Rattle.am_timer.specs.Queue.{is_named, with_timer, without}
use Rattle.am_timer.specs.Tied.{has_timer}
use Rattle.am_timer.specs.Timer.{Key, Name, Timer, key_cmp, name_cmp, timer_cmp}
use Rattle.am_timer.proofs.Orders.{name_ties, same_name, same_timer}
use Rattle.am_timer.proofs.TiedLemmas.{has-filter, has-insert}
use Rattle.am_transfer.specs.Progress.{Progress, due_of}
use Rattle.am_transfer.specs.Tenants.{progress_of}
use Rattle.am_transfer.specs.Timers.{AreTimed, Room, due_for, is_at, is_for, is_told, name_of, names_one}

same_number : (n m : ℕ) → is_eq (nat_cmp n m) ≡ ((m == n) || false)
same_number n m = grind (arith, nat_tests)

-- a timer has that name where it is for that instance
pub named_is : (tenant : List ℕ) (instance : ℕ) (x : Timer) → is_named (name_of tenant instance) x ≡ is_for tenant (instance ∷ []) x
unfolding key_cmp
named_is tenant instance x =
    sym (tied_then (slice_cmp nat_cmp tenant x.name.tenant) (key_cmp (Push instance) x.name.key))
    ∙ ap (λ b. b && is_eq (key_cmp (Push instance) x.name.key)) (is_eq-name_cmp tenant x.name.tenant)
    ∙ ap (λ b. same tenant x.name.tenant && b) (by_kind x.name.key)
  where
    by_kind : (key : Key) → is_eq (key_cmp (Push instance) key) ≡ names_one (instance ∷ []) key
    by_kind (Operation number) = refl
    by_kind (Group key) = refl
    by_kind (Retry number) = refl
    by_kind (Push other) = same_number instance other

-- a timer of a name is the one that is due then
due_then : (x y : Timer) → x.name ≡ y.name → is_eq (timer_cmp x y) ≡ (y.due == x.due)
due_then x y same =
    sym (tied_then (nat_cmp x.due y.due) (name_cmp x.name y.name))
    ∙ ap (λ (n : Name). is_eq (nat_cmp x.due y.due) && is_eq (name_cmp n y.name)) same
    ∙ ap (λ o. is_eq (nat_cmp x.due y.due) && is_eq o) (name_ties y.name)
    ∙ numbers x.due y.due
  where
    numbers : (m n : ℕ) → (is_eq (nat_cmp m n) && true) ≡ (n == m)
    numbers m n = grind (arith, nat_tests)

module _ (tenant : List ℕ) (instance : ℕ) (entries : List (List ℕ × Progress)) (old new : List Timer) where
  -- what is told of the timer of that name
  told_is : (name : Name) → name ≡ name_of tenant instance → (o : Option ℕ) → o ≡ due_of instance (progress_of tenant entries)
      → due_for name.key (progress_of name.tenant entries) ≡ o
  told_is name named o is = ap (λ (n : Name). due_for n.key (progress_of n.tenant entries)) named ∙ sym is

  -- the timer was set
  pub set_for : (y : Timer) → y.name ≡ name_of tenant instance → Some y.due ≡ due_of instance (progress_of tenant entries) → new ≡ with_timer y old
      → (x : Timer) → has_timer new x ≡ (if is_for tenant (instance ∷ []) x then is_told x entries else has_timer old x)
  set_for y named due is x =
      ap (λ ys. has_timer ys x) is ∙ has-insert (without y.name old) y x ∙ ap (λ b. is_eq (timer_cmp x y) || b) (has-filter (λ z. not (is_named y.name z)) old x)
      ∙ by_name (is_for tenant (instance ∷ []) x) (ap (λ (n : Name). is_named n x) named ∙ named_is tenant instance x)
    where
      nothing_more : (c : Bool) → (c || false) ≡ c
      nothing_more true = refl
      nothing_more false = refl

      by_name : (b : Bool) → is_named y.name x ≡ b → (is_eq (timer_cmp x y) || (not (is_named y.name x) && has_timer old x)) ≡ (if b then is_told x entries else has_timer old x)
      by_name true h =
          let own : y.name ≡ x.name = same_name y.name x.name h in
          let told : due_for x.name.key (progress_of x.name.tenant entries) ≡ Some y.due = told_is x.name (sym own ∙ named) (Some y.due) due in
          rw (h, told) (nothing_more (is_eq (timer_cmp x y)) ∙ due_then x y (sym own))
      by_name false h = rw h (by_timer (is_eq (timer_cmp x y)) refl)
        where
          by_timer : (c : Bool) → is_eq (timer_cmp x y) ≡ c → (c || has_timer old x) ≡ has_timer old x
          by_timer true e = absurd (false≢true (sym h ∙ ap (λ (z : Timer). is_named y.name z) (same_timer x y e) ∙ ap is_eq (name_ties y.name)))
          by_timer false e = refl

  -- .. or cancelled
  pub cancelled_for : (name : Name) → name ≡ name_of tenant instance → None ≡ due_of instance (progress_of tenant entries) → new ≡ without name old
      → (x : Timer) → has_timer new x ≡ (if is_for tenant (instance ∷ []) x then is_told x entries else has_timer old x)
  cancelled_for name named none is x =
      ap (λ ys. has_timer ys x) is ∙ has-filter (λ z. not (is_named name z)) old x
      ∙ by_name (is_for tenant (instance ∷ []) x) (ap (λ (n : Name). is_named n x) named ∙ named_is tenant instance x)
    where
      by_name : (b : Bool) → is_named name x ≡ b → (not (is_named name x) && has_timer old x) ≡ (if b then is_told x entries else has_timer old x)
      by_name true h =
          let told : due_for x.name.key (progress_of x.name.tenant entries) ≡ None = told_is x.name (sym (same_name name x.name h) ∙ named) None none in
          rw (h, told) refl
      by_name false h = rw h refl

-- the timer was cancelled, whatever is told
pub cancelled_one : (tenant : List ℕ) (instance : ℕ) (name : Name) (old new : List Timer) → name ≡ name_of tenant instance → new ≡ without name old
    → (x : Timer) → has_timer new x ≡ (if is_for tenant (instance ∷ []) x then false else has_timer old x)
cancelled_one tenant instance name old new named is x =
    ap (λ ys. has_timer ys x) is ∙ has-filter (λ z. not (is_named name z)) old x
    ∙ by_name (is_for tenant (instance ∷ []) x) (ap (λ (n : Name). is_named n x) named ∙ named_is tenant instance x)
  where
    by_name : (b : Bool) → is_named name x ≡ b → (not (is_named name x) && has_timer old x) ≡ (if b then false else has_timer old x)
    by_name true h = rw h refl
    by_name false h = rw h refl

-- no timer is for none of them
pub for_none : (tenant : List ℕ) (x : Timer) → is_for tenant [] x ≡ false
for_none tenant x = by_tenant (same tenant x.name.tenant)
  where
    by_kind : (key : Key) → names_one [] key ≡ false
    by_kind (Operation number) = refl
    by_kind (Group key) = refl
    by_kind (Retry number) = refl
    by_kind (Push instance) = refl

    by_tenant : (b : Bool) → (b && names_one [] x.name.key) ≡ false
    by_tenant true = by_kind x.name.key
    by_tenant false = refl

-- ---- several, one after the other

-- for one more of these instances
among_more : (tenant : List ℕ) (instances : List ℕ) (i : ℕ) (instance d : ℕ) (x : Timer) → i < length instances → instance ≡ get_or instances i d
    → is_for tenant (take (i + 1) instances) x ≡ (is_for tenant (take i instances) x || is_for tenant (instance ∷ []) x)
among_more tenant instances i instance d x low at = by_tenant (same tenant x.name.tenant) (by_kind x.name.key)
  where
    never : (c : Bool) → (c || false) ≡ c
    never true = refl
    never false = refl

    by_kind : (key : Key) → names_one (take (i + 1) instances) key ≡ (names_one (take i instances) key || names_one (instance ∷ []) key)
    by_kind (Operation number) = refl
    by_kind (Group key) = refl
    by_kind (Retry number) = refl
    by_kind (Push other) =
        list_any_more (λ j. other == j) instances i d low
        ∙ ap (λ j. is_among other (take i instances) || (other == j)) (sym at)
        ∙ ap (λ b. is_among other (take i instances) || b) (sym (never (other == instance)))

    by_tenant : (b : Bool) → names_one (take (i + 1) instances) x.name.key ≡ (names_one (take i instances) x.name.key || names_one (instance ∷ []) x.name.key)
        → (b && names_one (take (i + 1) instances) x.name.key) ≡ ((b && names_one (take i instances) x.name.key) || (b && names_one (instance ∷ []) x.name.key))
    by_tenant true e = e
    by_tenant false e = refl

pub next_for : (tenant : List ℕ) (instances : List ℕ) (i : ℕ) (instance d : ℕ) (x : Timer) (told was mid now : Bool) → i < length instances → instance ≡ get_or instances i d
    → mid ≡ (if is_for tenant (take i instances) x then told else was) → now ≡ (if is_for tenant (instance ∷ []) x then told else mid)
    → now ≡ (if is_for tenant (take (i + 1) instances) x then told else was)
next_for tenant instances i instance d x told was mid now low at before after =
    after ∙ ap (λ b. if is_for tenant (instance ∷ []) x then told else b) before
    ∙ joined (is_for tenant (take i instances) x) (is_for tenant (instance ∷ []) x)
    ∙ ap (λ b. if b then told else was) (sym (among_more tenant instances i instance d x low at))
  where
    joined : (a b : Bool) → (if b then told else (if a then told else was)) ≡ (if a || b then told else was)
    joined true true = refl
    joined true false = refl
    joined false true = refl
    joined false false = refl

-- the same where a list grew by one
pub grown_for : (tenant instances : List ℕ) (instance : ℕ) (x : Timer) (told was mid now : Bool)
    → mid ≡ (if is_for tenant instances x then told else was) → now ≡ (if is_for tenant (instance ∷ []) x then told else mid)
    → now ≡ (if is_for tenant (instances ++ instance ∷ []) x then told else was)
grown_for tenant instances instance x told was mid now before after =
    after ∙ ap (λ b. if is_for tenant (instance ∷ []) x then told else b) before ∙ by_tenant (same tenant x.name.tenant) (by_kind x.name.key)
  where
    among_grown : (i : ℕ) (xs : List ℕ) → is_among i (xs ++ instance ∷ []) ≡ (is_among i xs || is_among i (instance ∷ []))
    among_grown i [] = refl
    among_grown i (y ∷ ys) = ap (λ b. (i == y) || b) (among_grown i ys) ∙ turned (i == y) (is_among i ys) (is_among i (instance ∷ []))
      where
        turned : (a b c : Bool) → (a || (b || c)) ≡ ((a || b) || c)
        turned true b c = refl
        turned false b c = refl

    by_kind : (key : Key) → names_one (instances ++ instance ∷ []) key ≡ (names_one instances key || names_one (instance ∷ []) key)
    by_kind (Operation number) = refl
    by_kind (Group key) = refl
    by_kind (Retry number) = refl
    by_kind (Push other) = among_grown other instances

    joined : (a b : Bool) → (if b then told else (if a then told else was)) ≡ (if a || b then told else was)
    joined true true = refl
    joined true false = refl
    joined false true = refl
    joined false false = refl

    by_tenant : (b : Bool) → names_one (instances ++ instance ∷ []) x.name.key ≡ (names_one instances x.name.key || names_one (instance ∷ []) x.name.key)
        → (if b && names_one (instance ∷ []) x.name.key then told else (if b && names_one instances x.name.key then told else was))
        ≡ (if b && names_one (instances ++ instance ∷ []) x.name.key then told else was)
    by_tenant true e = joined (names_one instances x.name.key) (names_one (instance ∷ []) x.name.key) ∙ ap (λ b. if b then told else was) (sym e)
    by_tenant false e = refl

-- one more of those that were gone through
pub grown_list : (xs : List ℕ) (ys : List (Bor ℕ)) (y : Bor ℕ) → xs ++ map deref (ys ++ y ∷ []) ≡ (xs ++ map deref ys) ++ y.now ∷ []
grown_list xs ys y = ap (λ zs. xs ++ zs) (mapped ys) ∙ sym (append_assoc xs (map deref ys) (y.now ∷ []))
  where
    mapped : (zs : List (Bor ℕ)) → map deref (zs ++ y ∷ []) ≡ map deref zs ++ y.now ∷ []
    mapped [] = refl
    mapped (z ∷ zs) = ap (λ ws. z.now ∷ ws) (mapped zs)

-- ---- the timers of all tenants

-- what is sent again to other instances stays
abbrev pub StaysElsewhere : (instances : List ℕ) → (old new : Progress) → Type 0
StaysElsewhere instances old new = (i : ℕ) → is_among i instances ≡ false → due_of i new ≡ due_of i old

-- the timers are those that are told, where those of the tenant whose progress changed were set anew
pub timed_after : (tenant instances : List ℕ) (old new : List (List ℕ × Progress)) (before after : List Timer) (f : Progress → Progress)
    → ((t : List ℕ) → progress_of t new ≡ (if same t tenant then f (progress_of t old) else progress_of t old))
    → StaysElsewhere instances (progress_of tenant old) (f (progress_of tenant old))
    → ((x : Timer) → has_timer after x ≡ (if is_for tenant instances x then is_told x new else has_timer before x))
    → ((x : Timer) → has_timer before x ≡ is_told x old)
    → (x : Timer) → has_timer after x ≡ is_told x new
timed_after tenant instances old new before after f each stays set timed x = set x ∙ by_one (is_for tenant instances x) refl
  where
    elsewhere : (key : Key) → names_one instances key ≡ false → due_for key (f (progress_of tenant old)) ≡ due_for key (progress_of tenant old)
    elsewhere (Operation number) none = refl
    elsewhere (Group key) none = refl
    elsewhere (Retry number) none = refl
    elsewhere (Push instance) none = stays instance none

    other : (b : Bool) → same tenant x.name.tenant ≡ b → (b && names_one instances x.name.key) ≡ false
        → due_for x.name.key (progress_of x.name.tenant new) ≡ due_for x.name.key (progress_of x.name.tenant old)
    other true own none =
        let it : x.name.tenant ≡ tenant = sym (eq_from_same tenant x.name.tenant own) in
        ap (due_for x.name.key) (each x.name.tenant ∙ ap (λ b. if b then f (progress_of x.name.tenant old) else progress_of x.name.tenant old) (same-sym x.name.tenant tenant ∙ own))
        ∙ ap (λ t. due_for x.name.key (f (progress_of t old))) it ∙ elsewhere x.name.key none ∙ ap (λ t. due_for x.name.key (progress_of t old)) (sym it)
    other false own none =
        ap (due_for x.name.key) (each x.name.tenant ∙ ap (λ b. if b then f (progress_of x.name.tenant old) else progress_of x.name.tenant old) (same-sym x.name.tenant tenant ∙ own))

    by_one : (b : Bool) → is_for tenant instances x ≡ b → (if b then is_told x new else has_timer before x) ≡ is_told x new
    by_one true h = refl
    by_one false h =
        timed x ∙ ap (λ o. is_at o x.due) (sym (other (same tenant x.name.tenant) refl h))
