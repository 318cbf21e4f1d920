-- The steps of carrying out what was decided are all of it.
use Rattle.std.proofs.Common.{◌≡◌, ℕ, ◌==◌, true, false, List, length, Some, ap, sym, subst, ◌∙◌}
use Rattle.am_api.specs.Replied.{Decision}
use Rattle.am_cluster.specs.Here.{Here}
use Rattle.am_cluster.specs.Local.{Local}
use Rattle.am_cluster.specs.Messages.{Put}
use Rattle.am_cluster.specs.Operating.{carry_out, finish, stamp, wait_with}
use Rattle.am_cluster.specs.Reactions.{Reaction, where_some, ◌>>◌}
use Rattle.am_cluster.specs.Sending.{send_all}
use Rattle.am_context.proofs.Changes.{own}
use Rattle.am_http.specs.Replies.{reply}
use Rattle.am_item.specs.declared.fault.Fault.{Fault}
use Rattle.am_item.specs.declared.item.Item.{Item}
use Rattle.am_quorum.specs.Operations.{operation_at}
use Rattle.am_quorum.specs.declared.operation.Operation.{Operation}
use Rattle.am_quorum.proofs.Deadlines.{number_at}
use Rattle.am_site.specs.Locals.{local_of}
use Rattle.am_site.specs.Reacting.{Does, Reacts, StopsReacting}
use Rattle.am_site.specs.declared.said.Said.{Said as Spoken}
use Rattle.am_site.specs.declared.site.Site.{Site}
use Rattle.am_site.proofs.Carrying.{carries_items, carries_reply, stamped_operations, with_open}
use Rattle.am_site.proofs.Reacting.{does_from, in_turn_reacts, quiet, reacts_from, stops_from, stops_second}

module _ (tenant : List ℕ) (here : Here) (o : Operation) (decision : Decision) (number : ℕ) (bytes : List ℕ) (old mid : Site) (x : List Spoken)
    (replied : bytes ≡ reply decision.status decision.body) (open_there : operation_at number (local_of tenant old).operations ≡ Some o)
    (stamped : Does tenant (stamp decision) old mid) where
  abbrev text : List ℕ
  text = reply decision.status decision.body

  still_open : operation_at number (local_of tenant mid).operations ≡ Some o
  still_open =
      ap (λ (k : Local). operation_at number k.operations) (own tenant _ _ _ (stamped.local tenant))
      ∙ ap (operation_at number) (stamped_operations decision (local_of tenant old)) ∙ open_there

  -- without items the reply goes out
  pub replies : (new : Site) (y : List Spoken) → (length decision.items == 0) ≡ true
      → Reacts tenant (λ l. where_some (finish bytes) (operation_at number l.operations) l) mid new x y
      → Reacts tenant (carry_out here o decision) old new x y
  replies new y none finished =
      reacts_from tenant (stamp decision >> finish text o) (carry_out here o decision) old (carries_reply here o decision (local_of tenant old) none) new x y
      (in_turn_reacts tenant (stamp decision) (finish text o) old mid x x new y (quiet tenant (stamp decision) old mid x stamped)
      (reacts_from tenant (λ l. where_some (finish bytes) (operation_at number l.operations) l) (finish text o) mid
      (with_open (finish bytes) number o (local_of tenant mid) still_open ∙ ap (λ b. finish b o (local_of tenant mid)) replied) new x y finished))

  -- with items it waits, and these go to the three
  module _ (epoch : ℕ) (items : List Item) (late : Site) (some : (length decision.items == 0) ≡ false) (epoch_is : o.epoch ≡ epoch) (items_are : items ≡ decision.items)
      (waiting : Does tenant (λ l. where_some (wait_with bytes) (operation_at number l.operations) l) mid late) where
    abbrev puts : Local → Reaction
    puts = send_all o.epoch here here.three (Put o.number decision.items)

    same_puts : send_all epoch here here.three (Put number items) ≡ puts
    same_puts =
        ap (λ e. send_all e here here.three (Put number items)) (sym epoch_is)
        ∙ ap (λ m. send_all o.epoch here here.three (Put m items)) (sym (number_at number o (local_of tenant old).operations open_there))
        ∙ ap (λ is. send_all o.epoch here here.three (Put o.number is)) items_are

    waits_open : Does tenant (wait_with text o) mid late
    waits_open = does_from tenant (λ l. where_some (wait_with bytes) (operation_at number l.operations) l) (wait_with text o) mid
        (with_open (wait_with bytes) number o (local_of tenant mid) still_open ∙ ap (λ b. wait_with b o (local_of tenant mid)) replied) late waiting

    pub sends : (new : Site) (y : List Spoken) → Reacts tenant (send_all epoch here here.three (Put number items)) late new x y
        → Reacts tenant (carry_out here o decision) old new x y
    sends new y sent =
        reacts_from tenant (stamp decision >> (wait_with text o >> puts)) (carry_out here o decision) old (carries_items here o decision (local_of tenant old) some) new x y
        (in_turn_reacts tenant (stamp decision) (wait_with text o >> puts) old mid x x new y (quiet tenant (stamp decision) old mid x stamped)
        (in_turn_reacts tenant (wait_with text o) puts mid late x x new y (quiet tenant (wait_with text o) mid late x waits_open)
        (subst (λ (f : Local → Reaction). Reacts tenant f late new x y) same_puts sent)))

    pub stops_sending : (fault : Fault) → StopsReacting tenant (send_all epoch here here.three (Put number items)) late fault
        → StopsReacting tenant (carry_out here o decision) old fault
    stops_sending fault stops =
        stops_from tenant (stamp decision >> (wait_with text o >> puts)) (carry_out here o decision) old (carries_items here o decision (local_of tenant old) some) fault
        (stops_second tenant (stamp decision) (wait_with text o >> puts) old mid x x fault (quiet tenant (stamp decision) old mid x stamped)
        (stops_second tenant (wait_with text o) puts mid late x x fault (quiet tenant (wait_with text o) mid late x waits_open)
        (subst (λ (f : Local → Reaction). StopsReacting tenant f late fault) same_puts stops)))
