use Rattle.std.proofs.Common.{◌≡◌, ◌∙◌, ℕ, ap, map, refl, subst, sym, take}
use Rattle.std.specs.BTreeMap.{get_by}
use Rattle.std.specs.Cmp.Lexicographic.{slice_cmp}
use Rattle.std.specs.List.{Contains}
use Rattle.std.specs.Ordering.{nat_cmp}
use Rattle.std.proofs.lemmas.Map.Text.{btree_map_updates_str}
use Rattle.am_match.specs.Matchers.{MatcherText}
use Rattle.am_table.proofs.HolderLemmas.{names_more, none_each, none_put, none_there}
use Rattle.am_table.proofs.holders.nothing_held.Goals.{then-not-contains_key+in_ok-new+in_ok-insert+in-Some-1, then-not-contains_key+in_ok-new+in_ok-insert+in-None-1, else-not-contains_key}
use Rattle.am_table.proofs.holders.nothing_held.Goals as goal

pub loop-question-preserved : goal.loop-question-preserved
loop-question-preserved c =
    let qs = c.args.questions.now in
    let i = c.loop-question.question-index in
    let q = c.question-item.result in
    let old = c.loop-question.held in
    let name = c.name-name.result.now in
    let names = map (λ (p : ℕ × MatcherText). p.1.name) (take i qs) in
    let named : q.1.name ≡ name = ap (λ (p : ℕ × MatcherText). p.1.name) (sym c.question.view_is) ∙ sym c.name-name.ensures.name in
    let more = names_more qs i q c.loop-question-test.true c.question-item.is name named in
    elim c.if-not-contains_key.branch [
      | then-not-contains_key+in_ok-new+in_ok-insert+in-Some-1 w ↦ (
          let new = w.insert.new.self in
          let after = w.in_ok-new.field-0 in
          let updates = btree_map_updates_str name old new _ w.in_ok-insert.ensures.updates in
          record {
            asked = λ other there.
                rw w.held-is
                (none_put old new name after updates names w.in_ok-new.ensures c.loop-question.invariant.asked other (subst (λ ns. Contains ns other) more there));
            each = λ other. rw w.held-is (none_each old new name after updates w.in_ok-new.ensures c.loop-question.invariant.each other);
          }
          )
      | then-not-contains_key+in_ok-new+in_ok-insert+in-None-1 w ↦ (
          let new = w.insert.new.self in
          let after = w.in_ok-new.field-0 in
          let updates = btree_map_updates_str name old new _ w.in_ok-insert.ensures.updates in
          record {
            asked = λ other there.
                rw w.held-is
                (none_put old new name after updates names w.in_ok-new.ensures c.loop-question.invariant.asked other (subst (λ ns. Contains ns other) more there));
            each = λ other. rw w.held-is (none_each old new name after updates w.in_ok-new.ensures c.loop-question.invariant.each other);
          }
          )
      | else-not-contains_key w ↦ (
          let found = get_by (λ key. slice_cmp nat_cmp name key.now) old in
          record {
            asked = λ other there.
                rw w.held-is
                (none_there old names name c.loop-question.invariant.asked c.loop-question.invariant.each found refl
                (sym c.contains_key.ensures ∙ w.if-not-contains_key.false) other (subst (λ ns. Contains ns other) more there));
            each = λ other. rw w.held-is (c.loop-question.invariant.each other);
          }
          )
    ]
