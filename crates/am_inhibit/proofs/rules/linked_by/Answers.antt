use Rattle.std.proofs.Common.{◌≡◌, ◌∙◌, ◌+◌, ◌*◌, ◌<◌, ℕ, [], Bool, Bor, List, ap, arith, false, true, rules, get_or, length, map, replicate, subst, sym, take, inl, inr}
use Rattle.std.proofs.lemmas.Bool.{cases_Bool, true≢false}
use Rattle.std.proofs.lemmas.List.{get_or-map, length-map, length-replicate, take_all}
use Rattle.am_labels.specs.declared.Label.{Label}
use Rattle.am_labels.specs.declared.label_set.LabelSet.{LabelSet}
use Rattle.am_config.specs.declared.parts.Rule.{Rule}
use Rattle.am_match.specs.Meaning.{all_take}
use Rattle.am_inhibit.specs.Links.{lists_of}
use Rattle.am_inhibit.proofs.DifferentLemmas.{rule_of}
use Rattle.am_inhibit.proofs.RuleLemmas.{rows_long, source_row, target_row}
use Rattle.am_inhibit.proofs.WaitingLemmas.{AreInhibitorsBut, IsNoneSet, none_set, waiting_linked, waiting_more, waiting_on, waiting_over}
use Rattle.am_inhibit.proofs.rules.linked_by.Goals.{then-not-is_continued+in_ok-link_alone+in_ok-waiting-2, else-not-is_continued}
use Rattle.am_inhibit.proofs.rules.linked_by.Goals as goal

pub offset_bounds-table-number : goal.offset_bounds-table-number
offset_bounds-table-number c =
    let now : Bor Rule → Rule = λ r. r.now in
    let h : 2 * c.loop-number.number < length c.args.table.now =
    omega (arith, c.loop-number-test.true, length-map c.args.rules.now now, rows_long c.args.sets.now (map now c.args.rules.now) c.args.table.now c.requires.table) in
    search rules

pub bounds-table-number : goal.bounds-table-number
bounds-table-number c =
    let now : Bor Rule → Rule = λ r. r.now in
    omega (arith, c.loop-number-test.true, length-map c.args.rules.now now, rows_long c.args.sets.now (map now c.args.rules.now) c.args.table.now c.requires.table)

pub offset_bounds-table-number-in-loop-number : goal.offset_bounds-table-number-in-loop-number
offset_bounds-table-number-in-loop-number c =
    let now : Bor Rule → Rule = λ r. r.now in
    let h : 2 * c.loop-number.number + 1 < length c.args.table.now =
    omega (arith, c.loop-number-test.true, length-map c.args.rules.now now, rows_long c.args.sets.now (map now c.args.rules.now) c.args.table.now c.requires.table) in
    search rules

pub bounds-table-number-in-loop-number : goal.bounds-table-number-in-loop-number
bounds-table-number-in-loop-number c =
    let now : Bor Rule → Rule = λ r. r.now in
    omega (arith, c.loop-number-test.true, length-map c.args.rules.now now, rows_long c.args.sets.now (map now c.args.rules.now) c.args.table.now c.requires.table)

pub link_both-requires-clause-sources : goal.link_both-requires-clause-sources
link_both-requires-clause-sources c =
    let now : Bor Rule → Rule = λ r. r.now in
    let refs = c.args.rules.now in
    let i = c.loop-number.number in
    let item = c.index-rules-number.result in
    let fits : i < length (map now refs) = omega (arith, c.loop-number-test.true, length-map refs now) in
    let at : now item ≡ get_or (map now refs) i (now item) = sym (get_or-map now refs i item (now item) c.loop-number-test.true ∙ ap now (sym c.index-rules-number.is)) in
    ap length (c.as_slice-sources.ensures.value
    ∙ source_row c.args.sets.now (map now refs) c.args.table.now i (now item) (2 * i) c.index-table-number.result fits at c.index-table-number.is c.requires.table (omega arith))
    ∙ length-map c.args.sets.now (λ (set' : Bor LabelSet). all_take (now item).source set'.now)

pub link_both-requires-clause-targets : goal.link_both-requires-clause-targets
link_both-requires-clause-targets c =
    let now : Bor Rule → Rule = λ r. r.now in
    let refs = c.args.rules.now in
    let i = c.loop-number.number in
    let item = c.index-rules-number.result in
    let fits : i < length (map now refs) = omega (arith, c.loop-number-test.true, length-map refs now) in
    let at : now item ≡ get_or (map now refs) i (now item) = sym (get_or-map now refs i item (now item) c.loop-number-test.true ∙ ap now (sym c.index-rules-number.is)) in
    ap length (c.as_slice-targets.ensures.value
    ∙ target_row c.args.sets.now (map now refs) c.args.table.now i (now item) (2 * i + 1) c.index-table-number-in-loop-number.result fits at c.index-table-number-in-loop-number.is c.requires.table (omega arith))
    ∙ length-map c.args.sets.now (λ (set' : Bor LabelSet). all_take (now item).target set'.now)

pub join-requires : goal.join-requires
join-requires c =
    let now : Bor Rule → Rule = λ r. r.now in
    let refs = c.args.rules.now in
    let i = c.loop-number.number in
    let item = c.index-rules-number.result in
    let fits : i < length (map now refs) = omega (arith, c.loop-number-test.true, length-map refs now) in
    let at : now item ≡ get_or (map now refs) i (now item) = sym (get_or-map now refs i item (now item) c.loop-number-test.true ∙ ap now (sym c.index-rules-number.is)) in
    let long = ap length (c.as_slice-targets.ensures.value
    ∙ target_row c.args.sets.now (map now refs) c.args.table.now i (now item) (2 * i + 1) c.index-table-number-in-loop-number.result fits at c.index-table-number-in-loop-number.is c.requires.table (omega arith))
    ∙ length-map c.args.sets.now (λ (set' : Bor LabelSet). all_take (now item).target set'.now) in
    omega (arith, long, c.loop-number.invariant.long)

pub link_alone-requires-clause-sources : goal.link_alone-requires-clause-sources
link_alone-requires-clause-sources c =
    let now : Bor Rule → Rule = λ r. r.now in
    let refs = c.args.rules.now in
    let i = c.loop-number.number in
    let item = c.index-rules-number.result in
    let fits : i < length (map now refs) = omega (arith, c.loop-number-test.true, length-map refs now) in
    let at : now item ≡ get_or (map now refs) i (now item) = sym (get_or-map now refs i item (now item) c.loop-number-test.true ∙ ap now (sym c.index-rules-number.is)) in
    ap length (c.as_slice-sources.ensures.value
    ∙ source_row c.args.sets.now (map now refs) c.args.table.now i (now item) (2 * i) c.index-table-number.result fits at c.index-table-number.is c.requires.table (omega arith))
    ∙ length-map c.args.sets.now (λ (set' : Bor LabelSet). all_take (now item).source set'.now)

pub loop-number-preserved : goal.loop-number-preserved
loop-number-preserved c =
    let now : Bor Rule → Rule = λ r. r.now in
    let view : Bor LabelSet → List Label = λ set. set.now in
    let refs = c.args.rules.now in
    let sets = map view c.args.sets.now in
    let fires = c.args.fires.now in
    let i = c.loop-number.number in
    let item = c.index-rules-number.result in
    let rule = now item in
    let so_far = c.loop-number.invariant in
    let waiting = c.join.new.flags.items in
    let between = lists_of c.link_both.new.links.items in
    let fits : i < length (map now refs) = omega (arith, c.loop-number-test.true, length-map refs now) in
    let at : rule ≡ get_or (map now refs) i rule = sym (get_or-map now refs i item rule c.loop-number-test.true ∙ ap now (sym c.index-rules-number.is)) in
    let sources = c.as_slice-sources.ensures.value
    ∙ source_row c.args.sets.now (map now refs) c.args.table.now i rule (2 * i) c.index-table-number.result fits at c.index-table-number.is c.requires.table (omega arith) in
    let targets = c.as_slice-targets.ensures.value
    ∙ target_row c.args.sets.now (map now refs) c.args.table.now i rule (2 * i + 1) c.index-table-number-in-loop-number.result fits at c.index-table-number-in-loop-number.is c.requires.table (omega arith) in
    let long = ap length targets ∙ length-map c.args.sets.now (λ (set' : Bor LabelSet). all_take rule.target set'.now) in
    let more : AreInhibitorsBut rule (take (i + 1) (map now refs)) sets fires waiting between =
    waiting_more view c.args.sets.now fires (map now refs) i rule fits at c.as_slice-sources.result.now c.as_slice-targets.result.now c.loop-number.waiting.items waiting
    sources targets (λ k below. c.join.ensures.flags k (omega (arith, below, long))) (lists_of c.loop-number.links.items) between
    (so_far.inhibitors rule (λ below. at)) (rw c.as_slice-names.ensures at c.in_ok-link_both.ensures.linked) in
    record {
      links = elim c.if-not-is_continued.branch [
        | then-not-is_continued+in_ok-link_alone+in_ok-waiting-2 w ↦ rw w.links-is w.in_ok-link_alone.ensures.links
        | else-not-is_continued w ↦ rw w.links-is c.in_ok-link_both.ensures.links
      ];
      long = elim c.if-not-is_continued.branch [
        | then-not-is_continued+in_ok-link_alone+in_ok-waiting-2 w ↦ rw w.waiting-is (omega (arith, w.in_ok-waiting-2.ensures.len, w.in_ok-waiting-2.waiting.ok.0))
        | else-not-is_continued w ↦ rw w.waiting-is (c.join.ensures.each ∙ so_far.long)
      ];
      waits = λ k on. elim c.if-not-is_continued.branch [
        | then-not-is_continued+in_ok-link_alone+in_ok-waiting-2 w ↦
            let none = ap (λ (flags : List Bool). get_or flags k false) (w.in_ok-waiting-2.ensures.items_if_clones_equal (λ y same. same)) ∙ none_set _ k in
            absurd (true≢false (sym (rw w.waiting-is at on) ∙ none))
        | else-not-is_continued w ↦ c.is_continued.ensures.next w.if-not-is_continued.false
      ];
      inhibitors = λ next is. elim c.if-not-is_continued.branch [
        | then-not-is_continued+in_ok-link_alone+in_ok-waiting-2 w ↦
            let none : IsNoneSet w.in_ok-waiting-2.waiting.items = subst IsNoneSet (sym (w.in_ok-waiting-2.ensures.items_if_clones_equal (λ y same. same))) (none_set _) in
            rw (w.links-is, w.waiting-is)
            (waiting_linked view c.args.sets.now fires (take (i + 1) (map now refs)) rule next c.as_slice-sources.result.now waiting w.in_ok-waiting-2.waiting.items sources none
            between (lists_of w.link_alone.new.links.items) more (rw (c.as_slice-names.ensures, w.deref.ensures.value) at w.in_ok-link_alone.ensures.linked))
        | else-not-is_continued w ↦
            let shared = c.is_continued.ensures.shared w.if-not-is_continued.false rule next at (is (c.is_continued.ensures.next w.if-not-is_continued.false)) in
            rw (w.links-is, w.waiting-is)
            (waiting_on (take (i + 1) (map now refs)) rule next sets fires waiting between shared.0 shared.1 more)
      ];
      places = λ count sound.
          let both = c.in_ok-link_both.ensures.places count sound (so_far.places count sound) in
          elim c.if-not-is_continued.branch [
            | then-not-is_continued+in_ok-link_alone+in_ok-waiting-2 w ↦ rw w.links-is (w.in_ok-link_alone.ensures.places count sound both)
            | else-not-is_continued w ↦ rw w.links-is both
          ];
    }

pub returns-clause-inhibitors : goal.returns-clause-inhibitors
returns-clause-inhibitors c =
    let now : Bor Rule → Rule = λ r. r.now in
    let view : Bor LabelSet → List Label = λ set. set.now in
    let refs = c.args.rules.now in
    let sets = map view c.args.sets.now in
    let i = c.loop-number.number in
    let so_far = c.loop-number.invariant in
    let waiting = c.loop-number.waiting.items in
    let next = rule_of [] [] [] in
    let none : IsNoneSet waiting = λ k. elim (cases_Bool (get_or waiting k false)) [
      | inl on ↦ let below = so_far.waits k on in absurd (omega (arith, below, c.loop-number-test.false))
      | inr off ↦ off
    ] in
    waiting_over (map now refs) next sets c.args.fires.now waiting (lists_of c.loop-number.links.items) none
    (subst (λ rs. AreInhibitorsBut next rs sets c.args.fires.now waiting (lists_of c.loop-number.links.items))
    (take_all i (map now refs) (omega (arith, c.loop-number-test.false, length-map refs now)))
    (so_far.inhibitors next (λ below. absurd (omega (arith, below, c.loop-number-test.false)))))
