-- As an alert comes or goes, only its own groups change.
use Rattle.std.proofs.Common.{◌≡◌, ℕ, Bool, true, false, ◌&&◌, ◌||◌, cond, List, [], ◌∷◌, Option, Some, None, IfSome, refl, sym, ap, ◌∙◌}
use Rattle.std.specs.BTreeMap.{insert_entry}
use Rattle.std.specs.List.{list_any}
use Rattle.std.specs.List.Sorted.{IsStrictlySortedBy}
use Rattle.std.specs.Map.{keys_of, lookup}
use Rattle.std.proofs.lemmas.Bool.{false≢true}
use Rattle.am_labels.specs.declared.Label.{Label}
use Rattle.am_labels.specs.Labels.{labels_cmp}
use Rattle.am_members.specs.declared.group.Group.{Group as Name}
use Rattle.am_members.specs.declared.known.Known.{Known}
use Rattle.am_members.specs.Grouped.{Grouped, flush_of, flushed_at, kept_after, lost, members, put_in}
use Rattle.am_members.specs.Members.{is_bare}
use Rattle.am_members.specs.Names.{is_group, is_set, without}
use Rattle.am_members.proofs.Changes.{equal_itself}
use Rattle.am_members.proofs.Flushes.{flush_flushed, flush_kept, lost_by, none_lost}
use Rattle.am_members.proofs.Grouping.{absent_after, member_elsewhere, members-without, members_put, no_member}
use Rattle.am_members.proofs.Putting.{rising_without}
use Rattle.am_members.proofs.Tables.{all_left, put_found}
use Rattle.am_agenda.specs.Planned.{groups_known}
use Rattle.am_agenda.proofs.Timing.{AreTheOthers}

-- groups that an alert isn't in have the same members without it
stays_without : (q : Name) (l : List Label) (groups : List Name) (ys : List (List Label × Known)) → IsStrictlySortedBy labels_cmp (keys_of ys)
    → IfSome (lookup (is_set l) ys) (λ held. held.groups ≡ groups) → list_any (is_group q) groups ≡ false → members q (without l ys) ≡ members q ys
stays_without q l groups ys up own out = members-without q l ys ∙ all_left (is_set l) (members q ys) (by_held (lookup (is_set l) ys) refl own)
  where
    by_held : (o : Option Known) → lookup (is_set l) ys ≡ o → IfSome o (λ held. held.groups ≡ groups) → lookup (is_set l) (members q ys) ≡ None
    by_held None is has = no_member q l ys is
    by_held (Some k) is has = member_elsewhere q l k ys up is (ap (λ gs. list_any (is_group q) gs) has ∙ out)

-- an alert comes, or comes again into the same groups
pub put_others : (l : List Label) (v : Known) (old new : Grouped) → IsStrictlySortedBy labels_cmp (keys_of old.alerts) → IfSome (lookup (is_set l) old.alerts) (λ held. held.groups ≡ v.groups)
    → new.alerts ≡ put_in l v old.alerts → new.flushes ≡ old.flushes → AreTheOthers v.groups old new
put_others l v old new up own put kept = record {
  held = λ q out.
      ap (members q) put ∙ members_put q l v (without l old.alerts) (rising_without l old.alerts up) (absent_after l old.alerts)
      ∙ ap (λ b. cond b (insert_entry labels_cmp (members q (without l old.alerts)) l v.since) (members q (without l old.alerts))) out ∙ stays_without q l v.groups old.alerts up own out;
  flushed = λ q out. ap (flush_of q) kept;
}

-- an alert that was put is known
pub put_is_known : (l : List Label) (v : Known) (ys : List (List Label × Known)) → lookup (is_set l) (put_in l v ys) ≡ Some v
put_is_known l v ys = put_found labels_cmp l v (equal_itself l) (without l ys)

-- an alert went
pub remove_others : (l : List Label) (old new : Grouped) → IsStrictlySortedBy labels_cmp (keys_of old.alerts) → new.alerts ≡ without l old.alerts → new.flushes ≡ kept_after l old
    → AreTheOthers (groups_known (lookup (is_set l) old.alerts)) old new
remove_others l old new up left kept = by_held (lookup (is_set l) old.alerts) refl
  where
    by_held : (o : Option Known) → lookup (is_set l) old.alerts ≡ o → AreTheOthers (groups_known o) old new
    by_held None none = record {
      held = λ q out. ap (members q) (left ∙ all_left (is_set l) old.alerts none);
      flushed = λ q out.
          ap (flush_of q) kept ∙ flush_kept q l old
          ∙ ap (λ ys. cond (lost q old.alerts ys) None (flush_of q old.flushes)) (all_left (is_set l) old.alerts none)
          ∙ ap (λ b. cond b None (flush_of q old.flushes)) (none_lost q old.alerts);
    }
    by_held (Some k) there = record {
      held = λ q out. ap (members q) left ∙ stays_without q l k.groups old.alerts up (rw there refl) out;
      flushed = λ q out.
          ap (flush_of q) kept ∙ flush_kept q l old
          ∙ ap (λ b. cond b None (flush_of q old.flushes)) (sym (lost_by q l k old.alerts up there) ∙ ap (λ b. b && is_bare (members q (without l old.alerts))) out);
    }

-- a group was flushed
pub flush_others : (g : Name) (moment : ℕ) (old new : Grouped) → new.alerts ≡ old.alerts → new.flushes ≡ flushed_at g moment old → AreTheOthers (g ∷ []) old new
flush_others g moment old new stay flushed = record {
  held = λ q out. ap (members q) stay;
  flushed = λ q out. ap (flush_of q) flushed ∙ flush_flushed q g moment old ∙ another q (is_group q g) out;
}
  where
    another : (q : Name) (b : Bool) → (b || false) ≡ false → cond b (Some moment) (flush_of q old.flushes) ≡ flush_of q old.flushes
    another q true h = absurd (false≢true (sym h))
    another q false h = refl
