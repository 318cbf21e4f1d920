use Rattle.std.proofs.Common.{◌≡◌, ℕ, ◌+◌, ◌∙◌, ◌<◌, All, Bool, true, false, not, Vec, Global, ap, get_or, length, map, take, refl, subst, sym, arith}
use Rattle.std.proofs.lemmas.List.{get_or_default, length-map}
use Rattle.std.proofs.lemmas.Slice.Eq.{bytes_eq-Decides}
use Rattle.std.proofs.lemmas.List.Elements.{All-get_or}
use Rattle.am_pattern.proofs.AskingLemmas.{grows-stays, grows-trans, stays-refl, stays-trans}
use Rattle.am_match.specs.Matchers.{MatcherText}
use Rattle.am_match.proofs.FailureLemmas.{asked_on, handed_on}
use Rattle.am_table.specs.Narrowing.{narrowed}
use Rattle.am_table.specs.Columns.{IsColumnOf}
use Rattle.am_table.specs.Holders.{held_at, holders_from}
use Rattle.am_table.specs.Tables.{answer_of}
use Rattle.am_table.specs.declared.column.Column.{Column}
use Rattle.am_table.proofs.ColumnLemmas.{column_long, column_of_held, column_within, held_whole}
use Rattle.am_table.proofs.HolderLemmas.{name_among}
use Rattle.am_table.proofs.NarrowLemmas.{failure_of_one}
use Rattle.am_table.proofs.QuestionLemmas.{questions_more_patterns, questions_some_patterns}
use Rattle.am_table.proofs.TableLemmas.{matcher_among, some_there, table_more, table_none, table_start}
use Rattle.am_table.proofs.table.ask_all.Goals.{then-ne+in_ok-column-2, else-ne}
use Rattle.am_table.proofs.table.ask_all.Goals as goal

pub loop-number-init : goal.loop-number-init
loop-number-init c = record {
  stays = stays-refl _;
  misses = omega arith;
  column = (
      let q = c.index-questions-0.result in
      let named : q.1.name ≡ c.name.result.now = ap (λ (p : ℕ × MatcherText). p.1.name) (sym c.first.view_is) ∙ sym c.name.ensures.name in
      let there = name_among c.args.questions.now 0 q (some_there _ (sym c.is_empty.ensures ∙ c.if-is_empty.false)) c.index-questions-0.is c.name.result.now named in
      column_of_held c.name.result.now (map (λ set. set.now) c.args.sets.now) (held_at c.in_ok-held.held c.name.result.now) c.in_ok-column.column
      c.in_ok-held.ensures.label_sets (c.in_ok-held.ensures.held c.name.result.now there) c.in_ok-column.ensures.holders c.in_ok-column.ensures.name
      );
  indexed = c.in_ok-column.ensures.indexed;
  last = λ a is. absurd (cc);
  table = table_start (λ set. set.now) c.args.sets.now c.args.table.now.items c.requires.rows;
}

pub returns-then-is_empty-clause-rows : goal.returns-then-is_empty-clause-rows
returns-then-is_empty-clause-rows c =
    table_none (λ set. set.now) c.args.sets.now c.args.questions.now c.args.table.now.items (sym c.is_empty.ensures ∙ c.if-is_empty.true) c.requires.rows

pub of-requires : goal.of-requires
of-requires c =
    let q = c.index-questions-0.result in
    let named : q.1.name ≡ c.name.result.now = ap (λ (p : ℕ × MatcherText). p.1.name) (sym c.first.view_is) ∙ sym c.name.ensures.name in
    let there = name_among c.args.questions.now 0 q (some_there _ (sym c.is_empty.ensures ∙ c.if-is_empty.false)) c.index-questions-0.is c.name.result.now named in
    held_whole (held_at c.in_ok-held.held c.name.result.now) (holders_from 0 c.name.result.now (map (λ set. set.now) c.args.sets.now))
    (c.in_ok-held.ensures.held c.name.result.now there)

pub of-requires-then-ne : goal.of-requires-then-ne
of-requires-then-ne c =
    let q = c.index-questions-number.result in
    let name = c.name-name.result.now in
    let named : q.1.name ≡ name = ap (λ (p : ℕ × MatcherText). p.1.name) (sym c.question.view_is) ∙ sym c.name-name.ensures.name in
    let there = name_among c.args.questions.now c.loop-number.number q c.loop-number-test.true c.index-questions-number.is name named in
    held_whole (held_at c.in_ok-held.held name) (holders_from 0 name (map (λ set. set.now) c.args.sets.now)) (c.in_ok-held.ensures.held name there)

pub returns-in_err-column-2-clause-asked : goal.returns-in_err-column-2-clause-asked
returns-in_err-column-2-clause-asked c =
    asked_on c.from_residual-in_err-column-2.result _ c.args.cache.now c.loop-number.cache c.from_residual-in_err-column-2.ensures.1
    (grows-stays c.args.cache.now c.loop-number.cache c.loop-number.invariant.stays)

pub returns-in_err-column-2-clause-misses : goal.returns-in_err-column-2-clause-misses
returns-in_err-column-2-clause-misses c =
    omega (arith, c.loop-number.invariant.misses, questions_some_patterns c.args.questions.now c.loop-number.number)

pub ask-requires-clause-indexed : goal.ask-requires-clause-indexed
ask-requires-clause-indexed c = elim c.if-ne.branch [
  | then-ne+in_ok-column-2 w ↦ rw w.column-is w.in_ok-column-2.ensures.indexed
  | else-ne w ↦ rw w.column-is c.loop-number.invariant.indexed
]

-- the column before the question is asked is that of its label
pub ask-requires-clause-within : goal.ask-requires-clause-within
ask-requires-clause-within c =
    let sets = map (λ set. set.now) c.args.sets.now in
    let rows = c.loop-number.table.items in
    let row = c.index_mut-taken.result.now in
    let q = c.index-questions-number.result in
    let name = c.name-name.result.now in
    let number : q.0 ≡ c.question.inside.list = ap (λ (p : ℕ × MatcherText). p.0) (sym c.question.view_is) in
    let named : q.1.name ≡ name = ap (λ (p : ℕ × MatcherText). p.1.name) (sym c.question.view_is) ∙ sym c.name-name.ensures.name in
    let fits : q.0 < length c.args.table.now.items =
    rw (c.index-questions-number.is) (All-get_or (λ (p : ℕ × MatcherText). p.0 < length c.args.table.now.items) c.args.questions.now
    c.loop-number.number q c.loop-number-test.true c.requires.numbers) in
    let before : row ≡ get_or rows q.0 row = c.index_mut-taken.ensures.value ∙ ap (λ n. get_or rows n row) (sym number) in
    let long : length row.items ≡ length sets =
    ap (λ (r : Vec Bool Global). length r.items) before ∙ ap length (c.loop-number.invariant.table.1 q.0 row fits)
    ∙ length-map sets (answer_of (take c.loop-number.number c.args.questions.now) q.0) in
    let told : IsColumnOf c.if-ne.column.name.now sets c.if-ne.column = elim c.if-ne.branch [
      | then-ne+in_ok-column-2 w ↦
          rw w.column-is
          (column_of_held name sets (held_at c.in_ok-held.held name) _ c.in_ok-held.ensures.label_sets
          (c.in_ok-held.ensures.held name (name_among c.args.questions.now c.loop-number.number q c.loop-number-test.true c.index-questions-number.is name named))
          w.in_ok-column-2.ensures.holders w.in_ok-column-2.ensures.name)
      | else-ne w ↦ rw w.column-is c.loop-number.invariant.column
    ] in
    subst (λ n. All (λ place. place < n) c.if-ne.column.places.now) (sym long) (column_within c.if-ne.column.name.now sets c.if-ne.column told)

pub ask-requires-clause-each : goal.ask-requires-clause-each
ask-requires-clause-each c =
    let sets = map (λ set. set.now) c.args.sets.now in
    let q = c.index-questions-number.result in
    let name = c.name-name.result.now in
    let named : q.1.name ≡ name = ap (λ (p : ℕ × MatcherText). p.1.name) (sym c.question.view_is) ∙ sym c.name-name.ensures.name in
    let told : IsColumnOf c.if-ne.column.name.now sets c.if-ne.column = elim c.if-ne.branch [
      | then-ne+in_ok-column-2 w ↦
          rw w.column-is
          (column_of_held name sets (held_at c.in_ok-held.held name) _ c.in_ok-held.ensures.label_sets
          (c.in_ok-held.ensures.held name (name_among c.args.questions.now c.loop-number.number q c.loop-number-test.true c.index-questions-number.is name named))
          w.in_ok-column-2.ensures.holders w.in_ok-column-2.ensures.name)
      | else-ne w ↦ rw w.column-is c.loop-number.invariant.column
    ] in
    column_long c.if-ne.column.name.now sets c.if-ne.column told

pub returns-in_err-ask-clause-asked : goal.returns-in_err-ask-clause-asked
returns-in_err-ask-clause-asked c =
    asked_on c.from_residual-in_err-ask.result c.in_err-ask.field-0.0 c.args.cache.now c.ask.new.cache c.from_residual-in_err-ask.ensures.1
    (grows-trans c.args.cache.now c.loop-number.cache c.ask.new.cache
    (grows-stays c.args.cache.now c.loop-number.cache c.loop-number.invariant.stays) c.in_err-ask.ensures.asked)

pub returns-in_err-ask-clause-misses : goal.returns-in_err-ask-clause-misses
returns-in_err-ask-clause-misses c =
    let qs = c.args.questions.now in
    let k = c.loop-number.number in
    let matcher : c.index-questions-number.result.1 ≡ c.question.inside.matcher.now = ap (λ (p : ℕ × MatcherText). p.1) (sym c.question.view_is) in
    let more = questions_more_patterns qs k c.index-questions-number.result c.loop-number-test.true c.index-questions-number.is in
    let asked = rw (← matcher) at c.in_err-ask.ensures.misses in
    omega (arith, more, asked, c.loop-number.invariant.misses, questions_some_patterns qs (k + 1))

pub returns-in_err-ask-clause-failure : goal.returns-in_err-ask-clause-failure
returns-in_err-ask-clause-failure c =
    handed_on _ c.from_residual-in_err-ask.result c.in_err-ask.field-0.0 c.from_residual-in_err-ask.ensures.1
    (failure_of_one (map (λ (q : ℕ × MatcherText). q.1) c.args.questions.now) c.question.inside.matcher.now c.args.cache.now c.loop-number.cache
    c.ask.new.cache c.in_err-ask.field-0.0
    (matcher_among c.args.questions.now c.loop-number.number c.index-questions-number.result c.loop-number-test.true c.index-questions-number.is c.question.inside.matcher.now
    (ap (λ (q : ℕ × MatcherText). q.1) (sym c.question.view_is)))
    c.loop-number.invariant.stays c.in_err-ask.ensures.failure)

-- a test that was turned and failed
passed : (b : Bool) → false ≡ not b → b ≡ true
passed true e = refl
passed false e = e

pub loop-number-preserved : goal.loop-number-preserved
loop-number-preserved c =
    let qs = c.args.questions.now in
    let k = c.loop-number.number in
    let q = c.index-questions-number.result in
    let rows = c.loop-number.table.items in
    let row = c.ask.new.taken in
    let old = c.index_mut-taken.result.now in
    let m = c.question.inside.matcher.now in
    let name = c.name-name.result.now in
    let sets = map (λ set. set.now) c.args.sets.now in
    let number : q.0 ≡ c.question.inside.list = ap (λ (p : ℕ × MatcherText). p.0) (sym c.question.view_is) in
    let matcher : q.1 ≡ m = ap (λ (p : ℕ × MatcherText). p.1) (sym c.question.view_is) in
    let named : q.1.name ≡ name = ap (λ (n : MatcherText). n.name) matcher ∙ sym c.name-name.ensures.name in
    let fits : q.0 < length c.args.table.now.items =
    rw (c.index-questions-number.is) (All-get_or (λ (p : ℕ × MatcherText). p.0 < length c.args.table.now.items) qs k q c.loop-number-test.true c.requires.numbers) in
    let before : old ≡ get_or rows q.0 row =
    c.index_mut-taken.ensures.value
    ∙ get_or_default rows c.question.inside.list old row (omega (arith, fits, number, c.loop-number.invariant.table.0))
    ∙ ap (λ n. get_or rows n row) (sym number) in
    let long : length old.items ≡ length sets =
    ap (λ (r : Vec Bool Global). length r.items) before ∙ ap length (c.loop-number.invariant.table.1 q.0 row fits)
    ∙ length-map sets (answer_of (take k qs) q.0) in
    let told : IsColumnOf c.if-ne.column.name.now sets c.if-ne.column = elim c.if-ne.branch [
      | then-ne+in_ok-column-2 w ↦
          rw w.column-is
          (column_of_held name sets (held_at c.in_ok-held.held name) _ c.in_ok-held.ensures.label_sets
          (c.in_ok-held.ensures.held name (name_among qs k q c.loop-number-test.true c.index-questions-number.is name named))
          w.in_ok-column-2.ensures.holders w.in_ok-column-2.ensures.name)
      | else-ne w ↦ rw w.column-is c.loop-number.invariant.column
    ] in
    let same : c.if-ne.column.name.now ≡ m.name = elim c.if-ne.branch [
      | then-ne+in_ok-column-2 w ↦
          ap (λ (x : Column). x.name.now) w.column-is ∙ w.in_ok-column-2.ensures.name ∙ c.name-name.ensures.name
      | else-ne w ↦
          ap (λ (x : Column). x.name.now) w.column-is
          ∙ sym ((bytes_eq-Decides c.name-name.result.now c.loop-number.column.name.now).0 (passed _ w.if-ne.ensures))
          ∙ c.name-name.ensures.name
    ] in
    let narrow : row.items ≡ narrowed q.1 sets (get_or rows q.0 row).items =
    c.in_ok-ask.ensures.taken sets (subst (λ n. IsColumnOf n sets c.if-ne.column) same told) long
    ∙ ap (λ n. narrowed n sets old.items) (sym matcher)
    ∙ ap (λ (r : Vec Bool Global). narrowed q.1 sets r.items) before in
    let more = questions_more_patterns qs k q c.loop-number-test.true c.index-questions-number.is in
    let asked = rw (← matcher) at c.in_ok-ask.ensures.misses in
    record {
      stays = stays-trans c.args.cache.now c.loop-number.cache c.ask.new.cache c.loop-number.invariant.stays c.in_ok-ask.ensures.asked;
      misses = omega (arith, more, asked, c.loop-number.invariant.misses);
      column = told;
      indexed = elim c.if-ne.branch [
        | then-ne+in_ok-column-2 w ↦ rw w.column-is w.in_ok-column-2.ensures.indexed
        | else-ne w ↦ rw w.column-is c.loop-number.invariant.indexed
      ];
      last = c.in_ok-ask.ensures.last;
      table =
          rw (← number)
          (table_more sets qs k q c.loop-number-test.true c.index-questions-number.is (length c.args.table.now.items) rows row
          c.loop-number.invariant.table fits narrow);
    }
