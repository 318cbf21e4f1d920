-- Which tenants the rows of a store have.
use Rattle.std.proofs.Common.{◌≡◌, inl, inr, ℕ, ◌+◌, ◌<◌, Bool, true, false, ◌||◌, List, [], ◌∷◌, ◌++◌, append_assoc, get_or, length, map, take, refl, sym, ap, ap₂, subst, ◌∙◌}
use Rattle.std.specs.Cmp.Lexicographic.{slice_cmp}
use Rattle.std.specs.List.{All, AllByRecursion, dedup, dedup_from, filter, flat_map, list_any}
use Rattle.std.specs.List.Sorted.{IsPermutation}
use Rattle.std.specs.Ordering.{is_eq, nat_cmp, ordering_then}
use Rattle.std.specs.Str.{bytes_eq}
use Rattle.std.specs.declared.cmp.Ordering.{Ordering}
use Rattle.std.specs.declared.cmp.Ordering.TheVariants.{Less, Equal, Greater}
use Rattle.std.proofs.lemmas.Bool.{cases_Bool, cond-false, cond-true}
use Rattle.std.proofs.lemmas.List.{map-append, take_more}
use Rattle.std.proofs.lemmas.List.Elements.{All-from_recursion, recursion_from_All}
use Rattle.std.proofs.lemmas.List.Folds.{list_any-append}
use Rattle.std.proofs.lemmas.List.Sorted.{All-permutation, list_any-IsPermutation}
use Rattle.std.proofs.lemmas.Map.Text.{is_eq-slice_cmp}
use Rattle.sqlite_sql.specs.Group.{members}
use Rattle.sqlite_value.specs.Keys.{collated_cmp}
use Rattle.sqlite_value.specs.Order.{value_cmp}
use Rattle.sqlite.specs.Collation.TheVariants.{Binary}
use Rattle.sqlite.specs.Effect.{Database}
use Rattle.sqlite.specs.Order.{Row, bytes, column}
use Rattle.sqlite.specs.Program.{overlay}
use Rattle.sqlite.specs.Query.{IsAnswer, Output, output}
use Rattle.sqlite.specs.State.{IsUnchanged, Shown, State}
use Rattle.sqlite.specs.Term.{eval_all}
use Rattle.sqlite.specs.Tree.{Trees}
use Rattle.sqlite.specs.declared.types.Value.{Value}
use Rattle.sqlite.specs.declared.types.Value.TheVariants.{Null}
use Rattle.sqlite.proofs.Callers.{reads_as}
use Rattle.am_tenant.specs.Names.{same}
use Rattle.am_tenant.proofs.Same.{eq_from_same}
use Rattle.am_store.specs.Reading.{IsNamed, NameTenants}
use Rattle.am_store.specs.Rows.{IsConfig, IsSilenceRow, IsStore, config_in, pairs_in, silence_in}
use Rattle.am_store.specs.Tables.{store_schema}
use Rattle.am_store.specs.Texts.{select_config_tenants, select_silence_tenants}
use Rattle.am_store.specs.Where.{columns1, hit}
use Rattle.am_store.proofs.Calls.{at_store, shown_unchanged}
use Rattle.am_store.proofs.Checks.{all_pass}
use Rattle.am_store.proofs.Compiled.{over}
use Rattle.am_store.proofs.CompiledOpening.{distinct_tenants, select_config_tenants_is, select_config_tenants_plain, select_config_tenants_unlisted, select_silence_tenants_is, select_silence_tenants_plain, select_silence_tenants_unlisted}
use Rattle.am_store.proofs.Latest.{Pair}
use Rattle.am_store.proofs.Statements.{matched, reads}

-- ---- tests of lists

pub any_map : {X Y : Type 0} (p : Y → Bool) (f : X → Y) (xs : List X) → list_any p (map f xs) ≡ list_any (λ x. p (f x)) xs
any_map p f [] = refl
any_map p f (x ∷ xs) = ap (λ b. p (f x) || b) (any_map p f xs)

-- what one of each group is found by
any_heads : {X : Type 0} (p : X → Bool) (cmp : X → X → Ordering) (alike : (x y : X) → cmp x y ≡ Equal → p x ≡ p y) (groups : List (X × List X))
    → AllByRecursion (λ g. AllByRecursion (λ x. cmp g.0 x ≡ Equal) g.1) groups → list_any p (flat_map members groups) ≡ list_any p (map (λ g. g.0) groups)
any_heads p cmp alike [] all = refl
any_heads p cmp alike (g ∷ gs) all =
    list_any-append p (members g) (flat_map members gs) ∙ ap₂ (λ a b. a || b) (one g.0 g.1 all.0) (any_heads p cmp alike gs all.1)
  where
    both_same : (a b : Bool) → a ≡ b → (a || b) ≡ a
    both_same true b e = refl
    both_same false b e = sym e

    rest : (x : _) (xs : List _) → AllByRecursion (λ y. cmp x y ≡ Equal) xs → p x ≡ false → list_any p xs ≡ false
    rest x [] all none = refl
    rest x (y ∷ ys) all none = ap (λ b. b || list_any p ys) (sym (alike x y all.0) ∙ none) ∙ rest x ys all.1 none

    one : (x : _) (xs : List _) → AllByRecursion (λ y. cmp x y ≡ Equal) xs → list_any p (x ∷ xs) ≡ p x
    one x xs all = elim (cases_Bool (p x)) [
      | inl found ↦ rw found refl
      | inr missed ↦ ap (λ b. b || list_any p xs) missed ∙ rest x xs all missed ∙ sym missed
    ]

one_name : (x k : List ℕ) → bytes_eq x k ≡ true → x ≡ k
unfolding same
one_name x k e = eq_from_same x k e

-- names without those that come again
any_dedup_from : (t k : List ℕ) (xs : List (List ℕ)) → list_any (same t) (dedup_from bytes_eq k xs) ≡ list_any (same t) (k ∷ xs)
any_dedup_from t k [] = refl
any_dedup_from t k (x ∷ xs) = elim (cases_Bool (bytes_eq x k)) [
  | inl again ↦
      ap (list_any (same t)) (cond-true _ _ _ again) ∙ any_dedup_from t k xs
      ∙ sym (ap (λ n. same t k || (same t n || list_any (same t) xs)) (one_name x k again) ∙ twice (same t k) (list_any (same t) xs))
  | inr other ↦ ap (list_any (same t)) (cond-false _ _ _ other) ∙ ap (λ b. same t k || b) (any_dedup_from t x xs)
]
  where
    twice : (a b : Bool) → (a || (a || b)) ≡ (a || b)
    twice true b = refl
    twice false b = refl

pub any_dedup : (t : List ℕ) (xs : List (List ℕ)) → list_any (same t) (dedup bytes_eq xs) ≡ list_any (same t) xs
any_dedup t [] = refl
any_dedup t (x ∷ xs) = any_dedup_from t x xs

-- one name more
pub one_name_more : (rows : List Row) (i : ℕ) (row : Row) (done : List (List ℕ)) → i < length rows → row ≡ get_or rows i row
    → (done ++ map (λ r. bytes (column r 0)) (take i rows)) ++ bytes (column row 0) ∷ [] ≡ done ++ map (λ r. bytes (column r 0)) (take (i + 1) rows)
one_name_more rows i row done within is =
    let name : Row → List ℕ = λ r. bytes (column r 0) in
    append_assoc done (map name (take i rows)) (name row ∷ [])
    ∙ ap (λ xs. done ++ xs)
    (ap (λ r. map name (take i rows) ++ name r ∷ []) is ∙ sym (map-append name (take i rows) (get_or rows i row ∷ [])) ∙ ap (map name) (sym (take_more rows i row within)))

-- ---- values that compare as equal

then_last : (a b : Ordering) → ordering_then a b ≡ Equal → b ≡ Equal
then_last Less b e = absurd (let no = e in cc)
then_last Equal b e = e
then_last Greater b e = absurd (let no = e in cc)

then_first : (a b : Ordering) → ordering_then a b ≡ Equal → a ≡ Equal
then_first Less b e = absurd (let no = e in cc)
then_first Equal b e = refl
then_first Greater b e = absurd (let no = e in cc)

equal_bytes : (v w : Value) → value_cmp v w ≡ Equal → bytes v ≡ bytes w
unfolding value_cmp same
equal_bytes v w e =
    let last = then_last _ (slice_cmp nat_cmp (bytes v) (bytes w)) (then_last _ _ e) in
    eq_from_same (bytes v) (bytes w) (sym (is_eq-slice_cmp (bytes v) (bytes w)) ∙ ap is_eq last)

equal_first : (a b : Row) → collated_cmp (Binary ∷ []) a b ≡ Equal → bytes (column a 0) ≡ bytes (column b 0)
equal_first [] [] e = refl
equal_first [] (w ∷ b) e = absurd (let no = e in cc)
equal_first (v ∷ a) [] e = absurd (let no = e in cc)
equal_first (v ∷ a) (w ∷ b) e = equal_bytes v w (then_first _ _ e)

-- ---- the two queries

distinct_shown : (db : Trees) (rows : List Row) → IsAnswer distinct_tenants db [] rows → (t : List ℕ) → list_any (λ r. same t (bytes (column r 0))) rows ≡ list_any (λ r. same t (bytes (column r 1))) (db 3)
distinct_shown db rows a t =
    let p : Output → Bool = λ o. same t (bytes (column o.1 0)) in
    let cmp : Output → Output → Ordering = λ x y. collated_cmp (Binary ∷ []) x.1 y.1 in
    let groups = a.distinct.0 in
    let all : map (output distinct_tenants) a.staged ≡ map (λ r. output (over 3 [] columns1 []) ([] ∷ r ∷ [])) (filter (hit [] []) (db 3)) =
    ap (map (output (over 3 [] columns1 []))) a.grouped ∙ matched 3 [] columns1 [] [] (db 3) in
    ap (list_any (λ r. same t (bytes (column r 0)))) a.shown
    ∙ any_map (λ r. same t (bytes (column r 0))) (λ (o : Output). o.1) a.ordered
    ∙ sym (list_any-IsPermutation p a.kept a.ordered a.same)
    ∙ ap (list_any p) a.distinct.2
    ∙ sym (any_heads p cmp (λ x y e. ap (same t) (equal_first x.1 y.1 e)) groups a.distinct.1.alike)
    ∙ sym (list_any-IsPermutation p (map (output distinct_tenants) a.staged) (flat_map members groups) a.distinct.1.same)
    ∙ ap (list_any p) all
    ∙ any_map p (λ r. output (over 3 [] columns1 []) ([] ∷ r ∷ [])) (filter (hit [] []) (db 3))
    ∙ ap (list_any (λ r. same t (bytes (column r 1)))) (all_pass (db 3))

module _ (old new : State) (store : IsStore old.now) (rows : List Row) where
  pub configs_named : Shown select_config_tenants [] old new rows
      → IsUnchanged old new × ((t : List ℕ) → list_any (λ r. same t (bytes (column r 0))) rows ≡ list_any (λ r. same t (config_in r).0) (old.now.trees 1))
  configs_named shown =
      let seen : Row → Row = λ r. eval_all columns1 ([] ∷ r ∷ []) in
      let perm : IsPermutation (map seen (old.now.trees 1)) rows =
      subst (λ xs. IsPermutation (map seen xs) rows) (all_pass (old.now.trees 1))
      (reads 1 [] columns1 [] [] select_config_tenants _ old new rows store.schema select_config_tenants_is select_config_tenants_plain select_config_tenants_unlisted refl shown) in (
        shown_unchanged old new select_config_tenants [] (at_store old new store select_config_tenants select_config_tenants_plain) rows shown,
        λ t. sym (list_any-IsPermutation (λ r. same t (bytes (column r 0))) (map seen (old.now.trees 1)) rows perm) ∙ any_map (λ r. same t (bytes (column r 0))) seen (old.now.trees 1),
      )

  pub silences_named : Shown select_silence_tenants [] old new rows
      → IsUnchanged old new × ((t : List ℕ) → list_any (λ r. same t (bytes (column r 0))) rows ≡ list_any (λ r. same t (silence_in r).0) (old.now.trees 3))
  silences_named shown =
      let read = reads_as select_silence_tenants [] old new store_schema store.schema _ select_silence_tenants_is select_silence_tenants_plain select_silence_tenants_unlisted rows shown in (
        shown_unchanged old new select_silence_tenants [] (at_store old new store select_silence_tenants select_silence_tenants_plain) rows shown,
        distinct_shown (overlay old.now.trees []) rows (read.answer Null),
      )

-- ---- rows that name tenants

all_behind : {X : Type 0} (P : X → Type 0) (xs ys : List X) → AllByRecursion P (xs ++ ys) → AllByRecursion P ys
all_behind P [] ys all = all
all_behind P (x ∷ xs) ys all = all_behind P xs ys all.1

all_heads : {X : Type 0} (P : X → Type 0) (groups : List (X × List X)) → AllByRecursion P (flat_map members groups) → AllByRecursion P (map (λ g. g.0) groups)
all_heads P [] all = tt
all_heads P (g ∷ gs) all = (all.0, all_heads P gs (all_behind P g.1 (flat_map members gs) all.1))

all_mapped : {X Y : Type 0} (P : X → Type 0) (Q : Y → Type 0) (f : X → Y) → ((x : X) → P x → Q (f x)) → (xs : List X) → AllByRecursion P xs → AllByRecursion Q (map f xs)
all_mapped P Q f h [] all = tt
all_mapped P Q f h (x ∷ xs) all = (h x all.0, all_mapped P Q f h xs all.1)

config_named : (row : Row) → IsConfig row → IsNamed (eval_all columns1 ([] ∷ row ∷ []))
config_named row is = record { tenant = is.tenant; tenant_is = ap (λ r. column r 1) is.is; named = is.named }

silence_named : (row : Row) → IsSilenceRow row → IsNamed (eval_all columns1 ([] ∷ row ∷ []))
silence_named row is = record { tenant = is.tenant; tenant_is = ap (λ r. column r 1) is.is; named = is.named }

distinct_named : (db : Trees) (rows : List Row) → IsAnswer distinct_tenants db [] rows → AllByRecursion IsSilenceRow (db 3) → All IsNamed rows
distinct_named db rows a silences =
    let IsHead : Output → Type 0 = λ o. IsNamed o.1 in
    let groups = a.distinct.0 in
    let shown : Row → Output = λ r. output (over 3 [] columns1 []) ([] ∷ r ∷ []) in
    let staged : map (output distinct_tenants) a.staged ≡ map shown (db 3) =
    ap (map (output (over 3 [] columns1 []))) a.grouped ∙ matched 3 [] columns1 [] [] (db 3) ∙ ap (map shown) (all_pass (db 3)) in
    let first : AllByRecursion IsHead (map (output distinct_tenants) a.staged) =
    subst (AllByRecursion IsHead) (sym staged) (all_mapped IsSilenceRow IsHead shown silence_named (db 3) silences) in
    let grouped : AllByRecursion IsHead (flat_map members groups) =
    recursion_from_All IsHead _ (All-permutation IsHead _ _ a.distinct.1.same (All-from_recursion IsHead _ first)) in
    let kept : AllByRecursion IsHead a.kept = subst (AllByRecursion IsHead) (sym a.distinct.2) (all_heads IsHead groups grouped) in
    let ordered : AllByRecursion IsHead a.ordered =
    recursion_from_All IsHead _ (All-permutation IsHead _ _ a.same (All-from_recursion IsHead _ kept)) in
    subst (All IsNamed) (sym a.shown) (All-from_recursion IsNamed _ (all_mapped IsHead IsNamed (λ (o : Output). o.1) (λ o named. named) a.ordered ordered))

module _ (old new : State) (store : IsStore old.now) (rows : List Row) where
  pub configs_all_named : Shown select_config_tenants [] old new rows → All IsNamed rows
  configs_all_named shown =
      let seen : Row → Row = λ r. eval_all columns1 ([] ∷ r ∷ []) in
      let perm : IsPermutation (map seen (old.now.trees 1)) rows =
      subst (λ xs. IsPermutation (map seen xs) rows) (all_pass (old.now.trees 1))
      (reads 1 [] columns1 [] [] select_config_tenants _ old new rows store.schema select_config_tenants_is select_config_tenants_plain select_config_tenants_unlisted refl shown) in
      All-permutation IsNamed _ rows perm (All-from_recursion IsNamed _ (all_mapped IsConfig IsNamed seen config_named (old.now.trees 1) store.configs))

  pub silences_all_named : Shown select_silence_tenants [] old new rows → All IsNamed rows
  silences_all_named shown =
      let read = reads_as select_silence_tenants [] old new store_schema store.schema _ select_silence_tenants_is select_silence_tenants_plain select_silence_tenants_unlisted rows shown in
      distinct_named (overlay old.now.trees []) rows (read.answer Null) store.silences

-- the names of both tables are those of all pairs
pub both_named : (old mid : Database) → mid ≡ old → (cs ss : List Row)
    → ((t : List ℕ) → list_any (λ r. same t (bytes (column r 0))) cs ≡ list_any (λ r. same t (config_in r).0) (old.trees 1))
    → ((t : List ℕ) → list_any (λ r. same t (bytes (column r 0))) ss ≡ list_any (λ r. same t (silence_in r).0) (mid.trees 3)) → NameTenants cs ss old.trees
unfolding pairs_in
both_named old mid same_db cs ss one two t =
    let own : Pair → Bool = λ pair. same t pair.0 in
    ap₂ (λ a b. a || b) (one t ∙ sym (any_map own config_in (old.trees 1)))
    (two t ∙ ap (λ (db : Database). list_any (λ r. same t (silence_in r).0) (db.trees 3)) same_db ∙ sym (any_map own silence_in (old.trees 3)))
    ∙ sym (list_any-append own (map config_in (old.trees 1)) (map silence_in (old.trees 3)))

-- the names of the rows are those that the rows were found by
pub all_named : (t : List ℕ) (names : List (List ℕ)) (cs ss : List Row) → names ≡ map (λ r. bytes (column r 0)) cs ++ map (λ r. bytes (column r 0)) ss
    → list_any (same t) names ≡ (list_any (λ r. same t (bytes (column r 0))) cs || list_any (λ r. same t (bytes (column r 0))) ss)
all_named t names cs ss are =
    let name : Row → List ℕ = λ r. bytes (column r 0) in
    ap (list_any (same t)) are ∙ list_any-append (same t) (map name cs) (map name ss) ∙ ap₂ (λ a b. a || b) (any_map (same t) name cs) (any_map (same t) name ss)
