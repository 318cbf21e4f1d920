-- What the change of a tenant's replicas makes of its open operations.
use Rattle.std.proofs.Common.{◌≡◌, ℕ, ◌==◌, ◌||◌, Bool, true, false, not, cond, List, [], ◌∷◌, ◌++◌, map, arith, append_assoc, ap, refl, sym, ◌∙◌}
use Rattle.std.specs.List.{filter, list_any}
use Rattle.std.specs.Prelude.{codes}
use Rattle.std.proofs.lemmas.Bool.Decides.{nat_tests}
use Rattle.std.proofs.lemmas.List.Folds.{list_any-append}
use Rattle.am_cluster.specs.Local.{Local, with_operations}
use Rattle.am_cluster.specs.Operating.{finish, replicas_changed, unavailable}
use Rattle.am_cluster.specs.Reactions.{Reaction, Replies, Said, each}
use Rattle.am_quorum.specs.Dockets.{Changes, Ops, emptied, operations_of}
use Rattle.am_quorum.specs.Operations.{connections_of, without_operation}
use Rattle.am_quorum.specs.declared.operation.Operation.{Operation}
use Rattle.am_site.specs.Locals.{local_of}
use Rattle.am_site.specs.Reacting.{Reacts, said_in}
use Rattle.am_site.specs.declared.said.Said.{Said as Spoken}
use Rattle.am_site.specs.declared.site.Site.{Site}
use Rattle.am_site.proofs.Carrying.{docket_makes, keeps_ops, with_ops}

-- ---- none is left

-- an operation of this number is one of these
abbrev named : List Operation → ℕ → Bool
named xs n = list_any (λ (x : Operation). n == x.number) xs

-- those of other numbers than these have
abbrev without_all : List Operation → List Operation → List Operation
without_all [] ys = ys
without_all (x ∷ xs) ys = without_all xs (without_operation x.number ys)

abbrev left : List Operation → List Operation → List Operation
left xs ys = filter (λ (o : Operation). not (named xs o.number)) ys

all_left : (ys : List Operation) → ys ≡ left [] ys
all_left [] = refl
all_left (y ∷ ys) = ap (λ os. y ∷ os) (all_left ys)

left_of_others : (x : Operation) (xs ys : List Operation) → left xs (without_operation x.number ys) ≡ left (x ∷ xs) ys
left_of_others x xs [] = refl
left_of_others x xs (y ∷ ys) = by (y.number == x.number) (left_of_others x xs ys)
  where
    by : (a : Bool) → left xs (without_operation x.number ys) ≡ left (x ∷ xs) ys
        → left xs (cond (not a) (y ∷ without_operation x.number ys) (without_operation x.number ys))
        ≡ cond (not (a || named xs y.number)) (y ∷ left (x ∷ xs) ys) (left (x ∷ xs) ys)
    by true rest = rest
    by false rest = ap (λ os. cond (not (named xs y.number)) (y ∷ os) os) rest

without_left : (xs ys : List Operation) → without_all xs ys ≡ left xs ys
without_left [] ys = all_left ys
without_left (x ∷ xs) ys = without_left xs (without_operation x.number ys) ∙ left_of_others x xs ys

itself_named : (xs : List Operation) (y : Operation) (ys : List Operation) → named (xs ++ y ∷ ys) y.number ≡ true
itself_named xs y ys =
    list_any-append (λ (x : Operation). y.number == x.number) xs (y ∷ ys)
    ∙ ap (λ b. named xs y.number || (b || named ys y.number)) (itself y.number)
    ∙ last (named xs y.number)
  where
    itself : (n : ℕ) → (n == n) ≡ true
    itself n = grind (arith, nat_tests)

    last : (b : Bool) → (b || true) ≡ true
    last true = refl
    last false = refl

none_left_behind : (xs ys : List Operation) → left (xs ++ ys) ys ≡ []
none_left_behind xs [] = refl
none_left_behind xs (y ∷ ys) =
    ap (λ b. cond (not b) (y ∷ left (xs ++ y ∷ ys) ys) (left (xs ++ y ∷ ys) ys)) (itself_named xs y ys)
    ∙ ap (λ zs. left zs ys) (sym (append_assoc xs (y ∷ []) ys)) ∙ none_left_behind (xs ++ y ∷ []) ys

none_left : (xs : List Operation) → without_all xs xs ≡ []
none_left xs = without_left xs xs ∙ none_left_behind [] xs

-- ---- all are answered

abbrev answered_with : List ℕ → Operation → Said
answered_with bytes o = Replies o.connection bytes

all_finish : (bytes : List ℕ) (xs : List Operation) (l : Local)
    → each (finish bytes) xs l ≡ record { local = with_operations (without_all xs l.operations) l; said = map (answered_with bytes) xs; fits = true }
unfolding finish
all_finish bytes [] l = refl
all_finish bytes (x ∷ xs) l =
    ap (λ (r : Reaction). let whole : Reaction = record { local = r.local; said = answered_with bytes x ∷ r.said; fits = r.fits } in whole)
    (all_finish bytes xs (with_operations (without_operation x.number l.operations) l))

-- .. that the replicas changed, and then none is open
abbrev changed_reply : List ℕ
changed_reply = unavailable (codes "Q2")

all_over : (l : Local) → replicas_changed l ≡ record { local = with_operations [] l; said = map (answered_with changed_reply) l.operations; fits = true }
unfolding replicas_changed
all_over l =
    all_finish changed_reply l.operations l
    ∙ ap (λ those. let r : Reaction = record { local = with_operations those l; said = map (answered_with changed_reply) l.operations; fits = true } in r) (none_left l.operations)

-- nothing else changes
pub only_operations : (l : Local) → (replicas_changed l).local ≡ with_operations [] l
only_operations l = ap (λ (r : Reaction). r.local) (all_over l)

pub none_open : (l : Local) → (replicas_changed l).local.operations ≡ []
none_open l = ap (λ (r : Reaction). r.local.operations) (all_over l)

-- .. on the connections that wait for them
pub on_connections : (bytes : List ℕ) (xs : List Operation) → map (λ connection. Replies connection bytes) (connections_of xs) ≡ map (answered_with bytes) xs
on_connections bytes [] = refl
on_connections bytes (x ∷ xs) = ap (λ said. answered_with bytes x ∷ said) (on_connections bytes xs)

pub changes : (tenant : List ℕ) (old : Site) (ops : Ops) (x y : List Spoken) → Changes tenant emptied old.operations ops → ops.incarnation ≡ old.operations.incarnation
    → map said_in y ≡ map said_in x ++ map (λ connection. Replies connection changed_reply) (connections_of (operations_of tenant old.operations))
    → Reacts tenant replicas_changed old (with_ops old ops) x y
unfolding local_of
changes tenant old ops x y changed kept said =
    let over = all_over (local_of tenant old) in
    record {
      local = docket_makes tenant emptied (λ l. (replicas_changed l).local) old ops changed (ap (λ (r : Reaction). r.local) over);
      said = said ∙ ap (λ out. map said_in x ++ out) (on_connections changed_reply (operations_of tenant old.operations))
          ∙ ap (λ (r : Reaction). map said_in x ++ r.said) (sym over);
      fits = ap (λ (r : Reaction). r.fits) over;
      keeps = keeps_ops old ops kept;
    }
