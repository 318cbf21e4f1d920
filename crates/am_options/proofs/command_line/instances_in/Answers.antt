use Rattle.std.proofs.Common.{rules, ◌≡◌, ◌∙◌, ◌==◌, Ok, codes, lit<, map, sym, None, Some}
use Rattle.std.specs.List.{slice_split}
use Rattle.std.proofs.lemmas.Iterator.Consumers.{map_from_collect}
use Rattle.std.proofs.lemmas.Iterator.Splits.{YieldsList-from_str_split}
use Rattle.std.proofs.lemmas.Result.{IfOk-weaker}
use Rattle.clap.specs.Words.{first_of, found_of, rows_of}
use Rattle.clap.proofs.WalkLemmas.{first_value-rows}
use Rattle.am_options.specs.CommandLine.{instances_in, instances_of}
use Rattle.am_options.proofs.command_line.instances_in.Goals as goal

pub returns-in_ok-texts-in-Some : goal.returns-in_ok-texts-in-Some
returns-in_ok-texts-in-Some c =
    let rows = rows_of (found_of c.args.matches.now) in
    let said : first_of (codes "ring") rows ≡ Some c.in-Some.text.now = sym (first_value-rows (found_of c.args.matches.now) (codes "ring")) ∙ search rules in
    let parts : map (λ t. t.now) c.in_ok-texts-in-Some.texts.items ≡ slice_split (λ b. b == 44) c.in-Some.text.now =
    map_from_collect {E = Unit {0}} (Ok c.in_ok-texts-in-Some.texts) c.in_ok-texts-in-Some.ensures.ran
    (YieldsList-from_str_split 44 c.in-Some.text.now (lit< tt) c.split.ensures.text c.split.ensures.has_more c.split.ensures.pattern) in
    let named : instances_of (map (λ t. t.now) c.in_ok-texts-in-Some.texts.items) ≡ instances_in rows = rw (said, parts) in
    IfOk-weaker c.instances_of.result _ _ (λ instances is. is ∙ rw c.deref.ensures.value named) c.instances_of.ensures

pub returns-in-None : goal.returns-in-None
returns-in-None c =
    let said : first_of (codes "ring") (rows_of (found_of c.args.matches.now)) ≡ None =
    sym (first_value-rows (found_of c.args.matches.now) (codes "ring")) ∙ search rules in
    rw said (search rules)
