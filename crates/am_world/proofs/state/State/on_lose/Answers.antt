use Rattle.std.proofs.Common.{◌≡◌, ◌∙◌, true, false, is_some, Option, None, Some, option_map, ap, refl, sym}
use Rattle.std.proofs.Common.{Bor}
use Rattle.std.specs.Option.{option_copied}
use Rattle.am_cluster.specs.Events.{Lose}
use Rattle.am_messages.specs.declared.messages.Posted.{Posted}
use Rattle.am_messages.specs.Posted.{posted_at}
use Rattle.am_wire.specs.declared.message.Message.{Message}
use Rattle.am_world.proofs.AloneLost.{kept_lose, kept_lost_unsent}
use Rattle.am_world.proofs.Beside.{step_beside}
use Rattle.am_world.proofs.FreshKept.{past_lost}
use Rattle.am_world.proofs.PostingLemmas.{filed_lost}
use Rattle.am_world.proofs.Reached.{reached_lost}
use Rattle.am_world.proofs.state.State.on_lose.Goals as goal

-- a message that is found was posted
posted_found : (o : Option Posted) (m : Option Message) → m ≡ option_map (λ (p : Posted). p.message) o
    → is_some m ≡ true → (there : Posted) × (o ≡ Some there)
posted_found None m is some = absurd (let clash = sym (ap is_some is) ∙ some in cc)
posted_found (Some there) m is some = (there, refl)

none_found : (o : Option Posted) (m : Option Message) → m ≡ option_map (λ (p : Posted). p.message) o
    → is_some m ≡ false → o ≡ None
none_found None m is none = refl
none_found (Some there) m is none = absurd (let clash = sym (ap is_some is) ∙ none in cc)

borrowed : {S : Type 0} (o : Option (Bor S)) → is_some (option_copied o) ≡ is_some o
borrowed None = refl
borrowed (Some b) = refl

pub returns-then-is_none-clause-step : goal.returns-then-is_none-clause-step
returns-then-is_none-clause-step c =
    step_beside c.args.self.now (Lose c.args.name.now) c.args.self.now refl
    (kept_lost_unsent c.args.self.now c.args.name.now
    (none_found (posted_at c.args.name.now c.args.self.now.messages) (option_copied c.find.result) c.find.ensures
    (borrowed c.find.result ∙ c.if-is_none.ensures)))

pub returns-clause-consistent : goal.returns-clause-consistent
returns-clause-consistent c = record {
  clock = c.requires.clock;
  numbered = c.requires.numbered;
  whole = c.requires.whole;
  quiet = c.requires.quiet;
  ring = c.requires.ring;
  members = c.requires.members;
  filed = filed_lost c.args.name.now c.args.self.now.messages c.lose.new.self c.lose.ensures c.requires.filed;
  past = past_lost c.args.name.now c.args.self.now.messages c.lose.new.self c.args.self.now.instances c.lose.ensures
      c.requires.past;
  fresh = reached_lost c.args.name.now c.args.self.now.messages c.lose.new.self c.args.self.now.instances
      c.lose.ensures c.requires.fresh;
}

pub returns-clause-step : goal.returns-clause-step
returns-clause-step c =
    let found = posted_found (posted_at c.args.name.now c.args.self.now.messages) (option_copied c.find.result)
    c.find.ensures (borrowed c.find.result ∙ c.if-is_none.ensures) in
    step_beside c.args.self.now (Lose c.args.name.now) _ refl (kept_lose c.args.self.now _ c.args.name.now (record {
      loses = c.lose.ensures;
      instances = refl;
      beside = record { clock = refl; common = refl };
      outputs = refl;
      faults = refl;
    }) found.0 found.1)
