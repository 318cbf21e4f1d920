use Rattle.std.proofs.Common.{rules, ◌≡◌, [], ◌∷◌, ◌++◌, sym, ap, ◌∙◌, subst, arith}
use Rattle.std.specs.BTreeMap.{is_at}
use Rattle.std.specs.List.Sorted.{IsStrictlySortedBy}
use Rattle.std.specs.Map.{keys_of, lookup}
use Rattle.std.specs.declared.cmp.Ordering.TheVariants.{Less, Equal, Greater}
use Rattle.std.proofs.lemmas.Grind.{common_steps}
use Rattle.am_item.specs.Newest.{newer}
use Rattle.am_item.proofs.Entries.{flipped}
use Rattle.am_item.proofs.Steps.{equal_newer, equal_sorted, greater_newer, less_newer, other_sorted, others_end, own_end, own_sorted, stays, stays_key}
use Rattle.am_item.proofs.map.merge.Goals as goal

pub loop-x-preserved-in-Less : goal.loop-x-preserved-in-Less
loop-x-preserved-in-Less g c =
    let cmp = g.K.Ord.cmp in
    let total = g.met.K.Ord.total in
    let out = c.loop-x.out.items in
    let x = c.in-Some.x.now in
    let xs = c.in-Some.xs.now in
    let y = c.in-Some-split_first.y.now in
    let ys = c.in-Some-split_first.ys.now in
    let first : c.loop-x.left.now ≡ x ∷ xs = search rules in
    let second : c.loop-x.right.now ≡ y ∷ ys = search rules in
    let own = subst (λ es. IsStrictlySortedBy cmp (keys_of (out ++ es))) first c.loop-x.invariant.own in
    let others = subst (λ es. IsStrictlySortedBy cmp (keys_of (out ++ es))) second c.loop-x.invariant.others in
    let less : cmp x.0 y.0 ≡ Less = search rules in
    let pushed : c.push.new.self.items ≡ out ++ x ∷ [] = search rules in
    record {
      own = subst (λ es. IsStrictlySortedBy cmp (keys_of (es ++ xs))) (sym pushed) (own_sorted total out x xs own);
      others = subst (λ es. IsStrictlySortedBy cmp (keys_of (es ++ c.loop-x.right.now))) (sym pushed) (subst (λ es. IsStrictlySortedBy cmp (keys_of ((out ++ x ∷ []) ++ es))) (sym second) (other_sorted total out x y xs ys less own others));
      newer = λ q.
          (λ i. newer (lookup (is_at (cmp q)) (pushed i ++ xs)) (lookup (is_at (cmp q)) (pushed i ++ second i)))
          ∙ less_newer total q out x y xs ys less own others
          ∙ sym (λ i. newer (lookup (is_at (cmp q)) (out ++ first i)) (lookup (is_at (cmp q)) (out ++ second i)))
          ∙ c.loop-x.invariant.newer q;
    }

pub loop-x-preserved-in-Greater : goal.loop-x-preserved-in-Greater
loop-x-preserved-in-Greater g c =
    let cmp = g.K.Ord.cmp in
    let total = g.met.K.Ord.total in
    let out = c.loop-x.out.items in
    let x = c.in-Some.x.now in
    let xs = c.in-Some.xs.now in
    let y = c.in-Some-split_first.y.now in
    let ys = c.in-Some-split_first.ys.now in
    let first : c.loop-x.left.now ≡ x ∷ xs = search rules in
    let second : c.loop-x.right.now ≡ y ∷ ys = search rules in
    let own = subst (λ es. IsStrictlySortedBy cmp (keys_of (out ++ es))) first c.loop-x.invariant.own in
    let others = subst (λ es. IsStrictlySortedBy cmp (keys_of (out ++ es))) second c.loop-x.invariant.others in
    let greater : cmp x.0 y.0 ≡ Greater = search rules in
    let less = flipped total x.0 y.0 greater in
    let pushed : c.push-in-Greater.new.self.items ≡ out ++ y ∷ [] = search rules in
    record {
      own = subst (λ es. IsStrictlySortedBy cmp (keys_of (es ++ c.loop-x.left.now))) (sym pushed) (subst (λ es. IsStrictlySortedBy cmp (keys_of ((out ++ y ∷ []) ++ es))) (sym first) (other_sorted total out y x ys xs less others own));
      others = subst (λ es. IsStrictlySortedBy cmp (keys_of (es ++ ys))) (sym pushed) (own_sorted total out y ys others);
      newer = λ q.
          (λ i. newer (lookup (is_at (cmp q)) (pushed i ++ first i)) (lookup (is_at (cmp q)) (pushed i ++ ys)))
          ∙ greater_newer total q out x y xs ys less own others
          ∙ sym (λ i. newer (lookup (is_at (cmp q)) (out ++ first i)) (lookup (is_at (cmp q)) (out ++ second i)))
          ∙ c.loop-x.invariant.newer q;
    }

pub loop-x-preserved : goal.loop-x-preserved
loop-x-preserved g c =
    let cmp = g.K.Ord.cmp in
    let total = g.met.K.Ord.total in
    let out = c.loop-x.out.items in
    let x = c.in-Some.x.now in
    let xs = c.in-Some.xs.now in
    let y = c.in-Some-split_first.y.now in
    let ys = c.in-Some-split_first.ys.now in
    let z = c.in_ok-kept-in-Equal.kept in
    let first : c.loop-x.left.now ≡ x ∷ xs = search rules in
    let second : c.loop-x.right.now ≡ y ∷ ys = search rules in
    let own = subst (λ es. IsStrictlySortedBy cmp (keys_of (out ++ es))) first c.loop-x.invariant.own in
    let others = subst (λ es. IsStrictlySortedBy cmp (keys_of (out ++ es))) second c.loop-x.invariant.others in
    let same : cmp x.0 y.0 ≡ Equal = search rules in
    let is : z ≡ stays x y = search rules in
    let pushed : c.push-in-Equal.new.self.items ≡ out ++ z ∷ [] = search rules in
    let k = stays_key total x y same in
    record {
      own = subst (λ es. IsStrictlySortedBy cmp (keys_of (es ++ xs))) (sym pushed) (equal_sorted total out x z xs (subst (λ w. cmp x.0 w.0 ≡ Equal) (sym is) k.0) own);
      others = subst (λ es. IsStrictlySortedBy cmp (keys_of (es ++ ys))) (sym pushed) (equal_sorted total out y z ys (subst (λ w. cmp y.0 w.0 ≡ Equal) (sym is) k.1) others);
      newer = λ q.
          (λ i. newer (lookup (is_at (cmp q)) (pushed i ++ xs)) (lookup (is_at (cmp q)) (pushed i ++ ys)))
          ∙ equal_newer total q out x y z xs ys same is own others
          ∙ sym (λ i. newer (lookup (is_at (cmp q)) (out ++ first i)) (lookup (is_at (cmp q)) (out ++ second i)))
          ∙ c.loop-x.invariant.newer q;
    }

pub returns-in_default-split_first-clause-newer : goal.returns-in_default-split_first-clause-newer
returns-in_default-split_first-clause-newer g c =
    let cmp = g.K.Ord.cmp in
    let out = c.loop-x.out.items in
    let none : c.loop-x.right.now ≡ [] = grind (arith, common_steps) in
    λ q.
    ap (lookup (is_at (cmp q))) c.in_ok-append.ensures
    ∙ sym (others_end g.met.K.Ord.total (is_at (cmp q)) out c.loop-x.left.now)
    ∙ sym (λ i. newer (lookup (is_at (cmp q)) (out ++ c.loop-x.left.now)) (lookup (is_at (cmp q)) (out ++ none i)))
    ∙ c.loop-x.invariant.newer q

pub returns-clause-newer : goal.returns-clause-newer
returns-clause-newer g c =
    let cmp = g.K.Ord.cmp in
    let out = c.loop-x.out.items in
    let none : c.loop-x.left.now ≡ [] = grind (arith, common_steps) in
    λ q.
    ap (lookup (is_at (cmp q))) c.in_ok-append-2.ensures
    ∙ sym (own_end g.met.K.Ord.total (is_at (cmp q)) out c.loop-x.right.now)
    ∙ sym (λ i. newer (lookup (is_at (cmp q)) (out ++ none i)) (lookup (is_at (cmp q)) (out ++ c.loop-x.right.now)))
    ∙ c.loop-x.invariant.newer q
