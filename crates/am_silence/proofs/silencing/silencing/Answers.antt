use Rattle.std.proofs.Common.{◌≡◌, ◌∙◌, [], ◌∷◌, Bool, Bor, List, ap, ap₂, map, refl, sym}
use Rattle.am_labels.specs.declared.Label.{Label}
use Rattle.am_match.specs.Matchers.{MatcherText}
use Rattle.am_match.specs.Meaning.{all_take}
use Rattle.am_silence.specs.Held.{held_silence, matchers_in}
use Rattle.am_match.proofs.FailureLemmas.{handed_on}
use Rattle.am_table.specs.Tables.{all_matchers}
use Rattle.am_silence.proofs.RowLemmas.{fused, same_matchers}
use Rattle.am_silence.proofs.silencing.silencing.Goals as goal

pub returns-in_err-table-clause-misses : goal.returns-in_err-table-clause-misses
returns-in_err-table-clause-misses c =
    let same : all_matchers (map (λ list. list.now) c.deref.result.now) ≡ matchers_in (map held_silence c.args.silences.now) =
    ap all_matchers (ap (map (λ list. list.now)) c.deref.ensures.value ∙ c.in_ok-lists.ensures) ∙ same_matchers c.args.silences.now in
    rw same at c.in_err-table.ensures.misses

pub returns-in_err-table-clause-failure : goal.returns-in_err-table-clause-failure
returns-in_err-table-clause-failure c =
    let same : all_matchers (map (λ list. list.now) c.deref.result.now) ≡ matchers_in (map held_silence c.args.silences.now) =
    ap all_matchers (ap (map (λ list. list.now)) c.deref.ensures.value ∙ c.in_ok-lists.ensures) ∙ same_matchers c.args.silences.now in
    handed_on _ c.from_residual-in_err-table.result c.in_err-table.field-0.0 c.from_residual-in_err-table.ensures.1
    (rw same at c.in_err-table.ensures.failure)

pub by_rows-requires-clause-rows : goal.by_rows-requires-clause-rows
by_rows-requires-clause-rows c =
    let sets = map (λ set. set.now) c.args.sets.now in
    let taken : List MatcherText → List Bool = λ ms. map (all_take ms) sets in
    c.in_ok-table.ensures.table
    ∙ each c.args.sets.now c.deref.result.now
    ∙ ap (map taken) (ap (map (λ list. list.now)) c.deref.ensures.value ∙ c.in_ok-lists.ensures)
    ∙ sym (fused taken (λ s. s.held.now.value.matchers) c.args.silences.now)
  where
    each : (xs : List (Bor (List Label))) (lists : List (Bor (List MatcherText))) → map (λ list. map (λ set. all_take list.now set.now) xs) lists
        ≡ map (λ ms. map (all_take ms) (map (λ set. set.now) xs)) (map (λ list. list.now) lists)
    each xs [] = refl
    each xs (list ∷ lists) = ap₂ (λ row rows. row ∷ rows) (fused (all_take list.now) (λ set. set.now) xs) (each xs lists)

pub returns-clause-misses : goal.returns-clause-misses
returns-clause-misses c =
    let same : all_matchers (map (λ list. list.now) c.deref.result.now) ≡ matchers_in (map held_silence c.args.silences.now) =
    ap all_matchers (ap (map (λ list. list.now)) c.deref.ensures.value ∙ c.in_ok-lists.ensures) ∙ same_matchers c.args.silences.now in
    rw same at c.in_ok-table.ensures.misses
