use Rattle.std.proofs.Common.{◌≡◌, ◌∙◌, ◌&&◌, Bool, false, true, take, ap, refl, sym, rules, tests}
use Rattle.std.specs.List.{list_all}
use Rattle.std.proofs.lemmas.Iterator.{YieldsList-from_slice}
use Rattle.std.proofs.lemmas.Iterator.Search.{all_from_yields_List}
use Rattle.am_ring.specs.Instances.{Members, is_among}
use Rattle.am_ring.specs.Replicas.{replicas}
use Rattle.am_instance.specs.Here.{has_stayed_on, three_on}
use Rattle.am_instance.proofs.Rings.{started_later, stayed_by}
use Rattle.am_instance.proofs.instance.Instance.has_stayed.Goals as goal

pub returns-then-self-occasion : goal.returns-then-self-occasion
unfolding has_stayed_on
returns-then-self-occasion c =
    started_later c.args.self.now.incarnation c.args.occasion.now.first _ c.if-self-occasion.true

pub returns-then-not-is_among : goal.returns-then-not-is_among
unfolding has_stayed_on three_on
returns-then-not-is_among c =
    let t = c.args.tenant.now in
    let i = c.args.self.now.number in
    let rings = c.args.occasion.now.rings.now in
    let epoch = c.args.self.now.known in
    let rest : Bool = list_all (λ (r : Members). is_among i (replicas t r.instances)) (take epoch rings) in
    let gone : is_among i c.args.three.now ≡ false = sym c.is_among.ensures ∙ c.if-not-is_among.true in
    ap (λ b. b && rest) (sym gone)
    ∙ stayed_by (replicas t) epoch rings i c.requires.known c.args.three.now c.requires.three rest refl
    c.args.self.now.incarnation c.args.occasion.now.first c.if-self-occasion.false

pub returns : goal.returns
unfolding has_stayed_on three_on
returns c =
    let t = c.args.tenant.now in
    let i = c.args.self.now.number in
    let rings = c.args.occasion.now.rings.now in
    let epoch = c.args.self.now.known in
    let among : is_among i c.args.three.now ≡ true = sym c.is_among.ensures ∙ c.if-not-is_among.false in
    ap (λ b. b && c.all.result) (sym among)
    ∙ stayed_by (replicas t) epoch rings i c.requires.known c.args.three.now c.requires.three c.all.result
    (all_from_yields_List (λ (r : Members). is_among i (replicas t r.instances)) _ _ c.all.result c.all.ensures.ran
    (YieldsList-from_slice (take epoch rings) cc) (λ x b q k. search (rules, tests)))
    c.args.self.now.incarnation c.args.occasion.now.first c.if-self-occasion.false
