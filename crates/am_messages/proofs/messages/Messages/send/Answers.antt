use Rattle.std.proofs.Common.{◌≡◌, ℕ, true, cond, Result, Ok, Err, OnErr, OnOk, refl, ap, ◌∙◌}
use Rattle.std.specs.Ordering.{is_eq}
use Rattle.am_item.specs.Retirement.{moment_after}
use Rattle.am_messages.specs.declared.messages.Lapse.{Lapse}
use Rattle.am_messages.specs.declared.messages.Posted.{Posted}
use Rattle.am_messages.specs.declared.name.MessageName.{MessageName}
use Rattle.am_messages.specs.Names.{name_of}
use Rattle.am_messages.specs.Posted.{AreTimed, has_lapse, lapse_cmp, message_life}
use Rattle.am_messages.proofs.Timed.{timed_more, timed_with}
use Rattle.am_messages.proofs.messages.Messages.send.Goals as goal

-- whatever a call returned
either_way : {T E A B C : Type 0} (r : Result T E) → OnOk r A → OnErr r B → (A → C) → (B → C) → C
either_way (Ok x) a b f g = f a
either_way (Err e) a b f g = g b

pub invariant_of-self-2 : goal.invariant_of-self-2
invariant_of-self-2 c =
    let p0 : Posted = record { message = c.args.message; sent_at = c.args.sent_at } in
    let x : Lapse = record { at = moment_after c.args.sent_at message_life; name = name_of c.args.message } in
    let key : Lapse = record { at = c.plus-at.result; name = c.of-name.result } in
    let key_is : key ≡ x =
    ap (λ (a : ℕ). let l : Lapse = record { at = a; name = c.of-name.result } in l) c.plus-at.ensures
    ∙ ap (λ (n : MessageName). let l : Lapse = record { at = moment_after c.args.sent_at message_life; name = n } in l) c.of-name.ensures in
    let es = c.self.inside.sent.entries in
    let ls = c.self.inside.lapses in
    let told : (l : Lapse) → has_lapse c.insert.new.self l ≡ cond (is_eq (lapse_cmp x l)) true (has_lapse ls l) = λ l.
    c.in_ok-insert.ensures.updates.0 l ∙ ap (λ (k : Lapse). cond (is_eq (lapse_cmp k l)) true (has_lapse ls l)) key_is in
    either_way {C = AreTimed c.put.new.sent.entries c.insert.new.self} c.put.result c.put.ensures.put c.put.ensures.err
    (λ found. timed_with es c.put.new.sent.entries ls c.insert.new.self c.self.invariant x p0 refl found told)
    (λ same. timed_more es c.put.new.sent.entries ls c.insert.new.self c.self.invariant x same told)
