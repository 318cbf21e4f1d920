use Rattle.std.proofs.Common.{◌≡◌, List, subst}
use Rattle.am_item.specs.Best.{IsRising}
use Rattle.am_item.specs.Held.{AreOrdered, items_in}
use Rattle.am_item.specs.declared.held.Held.TheInside.{Inside}
use Rattle.am_item.specs.declared.item.Item.{Item}
use Rattle.am_item.proofs.Whole.{rising_whole}
use Rattle.am_item.proofs.held.Held.snapshot.Goals as goal

-- what is held is in the order of keys
held_rises : (h : Inside) (held : List Item) → AreOrdered h → items_in h ≡ held → IsRising held
held_rises h held are view = subst (λ xs. IsRising xs) view (rising_whole h are)

pub returns-in_err-configuration-clause-rising : goal.returns-in_err-configuration-clause-rising
returns-in_err-configuration-clause-rising c = held_rises c.self.inside c.args.self.now c.self.invariant c.self.view_is

pub returns-in_err-silences-clause-rising : goal.returns-in_err-silences-clause-rising
returns-in_err-silences-clause-rising c = held_rises c.self.inside c.args.self.now c.self.invariant c.self.view_is

pub returns-in_err-alerts-clause-rising : goal.returns-in_err-alerts-clause-rising
returns-in_err-alerts-clause-rising c = held_rises c.self.inside c.args.self.now c.self.invariant c.self.view_is

pub returns-in_err-sent-clause-rising : goal.returns-in_err-sent-clause-rising
returns-in_err-sent-clause-rising c = held_rises c.self.inside c.args.self.now c.self.invariant c.self.view_is

pub returns-clause-rising : goal.returns-clause-rising
returns-clause-rising c = held_rises c.self.inside c.args.self.now c.self.invariant c.self.view_is
