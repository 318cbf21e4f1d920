-- What is so of an instance once its store was opened.
use Rattle.std.proofs.Common.{◌≡◌, ℕ, ◌<◌, Bool, List, [], length, Option, None, Some, inr, is_some, arith, ap, sym, subst, ◌∙◌}
use Rattle.std.proofs.lemmas.Bool.{false≢true}
use Rattle.am_cluster.specs.Here.{Here}
use Rattle.am_cluster.specs.Local.{Local, blank}
use Rattle.am_item.specs.Counts.{count_of}
use Rattle.am_item.specs.declared.fault.Fault.{Fault}
use Rattle.am_item.specs.declared.item.Item.{Item}
use Rattle.am_labels.specs.declared.Label.{Label}
use Rattle.am_node.specs.Held.{local_of as local_in_node}
use Rattle.am_node.specs.Local.{Local as NodeLocal}
use Rattle.am_quorum.specs.Dockets.{Docket, Ops, docket_of}
use Rattle.am_transfer.specs.Settling.{Settling}
use Rattle.am_transfer.specs.Tenants.{settling_of}
use Rattle.am_transfer.specs.Timers.{Room}
use Rattle.am_site.specs.InOrder.{IsInOrder, IsSound}
use Rattle.am_site.specs.Learning.{IsIdle}
use Rattle.am_site.specs.Locals.{from_rooms, local_of}
use Rattle.am_site.specs.Opening.{BeginsWith, KeepsRest}
use Rattle.am_site.specs.declared.site.Site.{Site}
use Rattle.am_instance.specs.Leaving.{IsLeft}
use Rattle.am_site.proofs.Sound.{blank_sound}

-- what is sound stands beside the node
rooms_sound : (here : Here) (n m : NodeLocal) (d : Docket) (sent more : ℕ) (g : Settling) → IsSound here (from_rooms n d sent g)
    → IsSound here (from_rooms m d more g)
rooms_sound here n m d sent more g sound = record {
  numbered = sound.numbered;
  used = sound.used;
  pushes = sound.pushes;
  apart = sound.apart;
  quiet = sound.quiet;
}

none : 0 < 0 → ⊥
none some = omega arith

module _ (here : Here) (old new : Site) (rest : KeepsRest old new) (nothing : local_of here.tenant old ≡ blank) where
  abbrev beside : NodeLocal → Ops → (sent : ℕ) → Room → Local
  beside n ops sent room = from_rooms n (docket_of here.tenant ops) sent (settling_of here.tenant room.progress)

  still_sound : IsSound here (local_of here.tenant new)
  unfolding local_of
  still_sound =
      let n = local_in_node here.tenant new.node in
      let sent = count_of here.tenant new.sent in
      subst (λ (ops : Ops). IsSound here (beside n ops sent new.settling)) (sym rest.operations)
      (subst (λ (room : Room). IsSound here (beside n old.operations sent room)) (sym rest.settling)
      (rooms_sound here (local_in_node here.tenant old.node) n (docket_of here.tenant old.operations)
      (count_of here.tenant old.sent) sent (settling_of here.tenant old.settling.progress)
      (subst (IsSound here) (sym nothing) (blank_sound here))))

  asks_nobody : (local_of here.tenant new).settling.asked_at ≡ None
  unfolding local_of
  asks_nobody =
      ap (λ (room : Room). (settling_of here.tenant room.progress).asked_at) rest.settling
      ∙ ap (λ (l : Local). l.settling.asked_at) nothing

  pushes_nothing : (local_of here.tenant new).settling.pushes ≡ []
  unfolding local_of
  pushes_nothing =
      ap (λ (room : Room). (settling_of here.tenant room.progress).pushes) rest.settling
      ∙ ap (λ (l : Local). l.settling.pushes) nothing

  -- no alert is held, nothing is pushed, and nobody was asked
  pub opened_elsewhere : (names : List (List ℕ)) → BeginsWith names new → IsIdle (local_of here.tenant new)
  opened_elsewhere names begins =
      record { sinces = begins.sinces here.tenant; pushes = pushes_nothing; asked = asks_nobody }

  -- all is in order where nothing was had, and no alert is held now
  pub opened_in_order : (names : List (List ℕ)) → BeginsWith names new → IsInOrder here new
  opened_in_order names begins = record {
    position = λ some.
        absurd (none (subst (λ (sinces : List (List Label × ℕ)). 0 < length sinces) (begins.sinces here.tenant) some));
    asked = λ some. absurd (false≢true (sym (ap is_some asks_nobody) ∙ some));
    sound = still_sound;
  }

-- rows are those that are kept, whatever stopped the call then
pub left_kept : (fault : Option Fault) (is_shut : Bool) (before kept rows : List Item) → rows ≡ kept
    → IsLeft fault is_shut before kept rows
left_kept None is_shut before kept rows is = is
left_kept (Some fault) is_shut before kept rows is = λ still. inr is
