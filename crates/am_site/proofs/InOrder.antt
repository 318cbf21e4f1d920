-- What is in order at an instance stays so: of the tenant to which something happens, and of the others.
use Rattle.std.proofs.Common.{◌≡◌, ℕ, ◌<◌, ◌≤◌, Bool, true, false, ◌||◌, List, [], ◌∷◌, filter, length, None, is_some, arith, cond, ap, refl, sym, subst, ◌∙◌, if◌then◌else◌}
use Rattle.std.proofs.lemmas.Bool.{false≢true}
use Rattle.am_cluster.specs.Here.{Here, others, position_here}
use Rattle.am_cluster.specs.Local.{Local, blank, is_settled}
use Rattle.am_cluster.specs.Reactions.{Reaction}
use Rattle.am_cluster.specs.Retiring.{retired, sinces_left}
use Rattle.am_context.proofs.Changes.{other, own}
use Rattle.am_node.specs.Held.{local_of as local_in_node}
use Rattle.am_node.specs.declared.parts.Parts.{Parts}
use Rattle.am_notifier.specs.Following.{sinces_in}
use Rattle.am_tenant.specs.Names.{same}
use Rattle.am_transfer.specs.Progress.{Progress, asked_of, first_asked, to_ask}
use Rattle.am_transfer.specs.Settling.{Settling}
use Rattle.am_transfer.specs.Tenants.{progress_of}
use Rattle.am_transfer.specs.Timers.{Room}
use Rattle.am_site.specs.InOrder.{IsAtPosition, IsInOrder, IsSound}
use Rattle.am_site.specs.Locals.{local_of}
use Rattle.am_site.specs.Reacting.{Does, KeepsOthers, Makes, Moves, Reacts, Retires, asked_in, position_in}
use Rattle.am_site.specs.declared.said.Said.{Said as Spoken}
use Rattle.am_site.specs.declared.site.Site.{Site}
use Rattle.am_site.proofs.Moving.{others_kept}
use Rattle.am_site.proofs.Sound.{KeepsSound, blank_sound, retired_sound, sound_at}

-- ---- what is sound

-- .. of the tenant, once it has what a reaction makes
pub made_sound : (here : Here) (f : Local → Reaction) (old new : Site) → KeepsSound here f → Makes here.tenant (λ l. (f l).local) old new
    → IsSound here (local_of here.tenant old) → IsSound here (local_of here.tenant new)
made_sound here f old new keeps makes sound = subst (IsSound here) (sym (own here.tenant _ _ _ (makes here.tenant))) (keeps (local_of here.tenant old) sound)

-- ---- what is in order

-- where nothing is had of a tenant
pub blank_in_order : (here : Here) (site : Site) → local_of here.tenant site ≡ blank → IsInOrder here site
blank_in_order here site is = record {
  position = λ some. absurd (none (subst (λ (l : Local). 0 < length l.sinces) is some));
  asked = λ some. absurd (false≢true (sym (ap (λ (l : Local). is_some l.settling.asked_at) is) ∙ some));
  sound = subst (IsSound here) (sym is) (blank_sound here);
}
  where
    none : 0 < 0 → ⊥
    none some = omega arith

-- where the instance has of the tenant what it had
pub same_in_order : (here : Here) (old new : Site) → local_of here.tenant new ≡ local_of here.tenant old → position_in here.tenant new ≡ position_in here.tenant old
    → asked_in here.tenant new ≡ asked_in here.tenant old → IsInOrder here old → IsInOrder here new
same_in_order here old new same position asked order = record {
  position = λ some.
      position ∙ order.position (subst (λ (l : Local). 0 < length l.sinces) same some)
      ∙ ap (λ (l : Local). if is_settled here l then position_here here else None) (sym same);
  asked = λ some. asked ∙ order.asked (sym (ap (λ (l : Local). is_some l.settling.asked_at) same) ∙ some);
  sound = subst (IsSound here) (sym same) order.sound;
}

-- .. and another tenant's groups may have moved, and others been asked of it
module _ (here : Here) (tenant : List ℕ) (apart : same here.tenant tenant ≡ false) (old new : Site) where
  pub in_order_elsewhere : (change : Local → Local) → Makes tenant change old new → KeepsOthers tenant old new → IsInOrder here old → IsInOrder here new
  in_order_elsewhere change makes kept =
      same_in_order here old new (other here.tenant tenant _ _ _ apart (makes here.tenant)) (kept.positions here.tenant apart) (kept.asked here.tenant apart)

  pub moves_elsewhere : (f : Local → Reaction) (x y : List Spoken) → Moves tenant f old new x y → IsInOrder here old → IsInOrder here new
  moves_elsewhere f x y moves = in_order_elsewhere (λ l. (f l).local) moves.local moves.keeps

  pub reacts_elsewhere : (f : Local → Reaction) (x y : List Spoken) → Reacts tenant f old new x y → IsInOrder here old → IsInOrder here new
  reacts_elsewhere f x y reacts = in_order_elsewhere (λ l. (f l).local) reacts.local (others_kept tenant old new reacts.keeps)

  pub does_elsewhere : (f : Local → Reaction) → Does tenant f old new → IsInOrder here old → IsInOrder here new
  does_elsewhere f does = in_order_elsewhere (λ l. (f l).local) does.local (others_kept tenant old new does.keeps)

  -- .. where nothing but the other's position changed
  pub positioned_elsewhere : ((t : List ℕ) → local_of t new ≡ local_of t old) → ((t : List ℕ) → same t tenant ≡ false → position_in t new ≡ position_in t old)
      → new.settling ≡ old.settling → IsInOrder here old → IsInOrder here new
  positioned_elsewhere stays positions settling =
      same_in_order here old new (stays here.tenant) (positions here.tenant apart) (ap (λ (r : Room). (progress_of here.tenant r.progress).asked) settling)

-- the moment, the limits, the epoch and the incarnations don't count
pub in_order_at : (h k : Here) (site : Site) → k.tenant ≡ h.tenant → k.instance ≡ h.instance → k.three ≡ h.three → k.stayed ≡ h.stayed → IsInOrder h site → IsInOrder k site
in_order_at h k site tenant instance three stayed order =
    subst (λ t. IsInOrder (record k { tenant = t }) site) (sym tenant)
    (subst (λ i. IsInOrder (record k { tenant = h.tenant; instance = i }) site) (sym instance)
    (subst (λ is. IsInOrder (record k { tenant = h.tenant; instance = h.instance; three = is }) site) (sym three)
    (subst (λ b. IsInOrder (record k { tenant = h.tenant; instance = h.instance; three = h.three; stayed = b }) site) (sym stayed) moved)))
  where
    there : Here
    there = record k { tenant = h.tenant; instance = h.instance; three = h.three; stayed = h.stayed }

    moved : IsInOrder (record k { tenant = h.tenant; instance = h.instance; three = h.three; stayed = h.stayed }) site
    moved = record { position = order.position; asked = order.asked; sound = sound_at h there (local_of h.tenant site) refl order.sound }

-- once the tenant's groups wait by the position of the instance
pub positioned_in_order : (here : Here) (old new : Site) → local_of here.tenant new ≡ local_of here.tenant old → new.settling ≡ old.settling → IsAtPosition here new
    → IsInOrder here old → IsInOrder here new
positioned_in_order here old new same settling at order = record {
  position = λ some. at;
  asked = λ some.
      ap (λ (r : Room). (progress_of here.tenant r.progress).asked) settling
      ∙ order.asked (sym (ap (λ (l : Local). is_some l.settling.asked_at) same) ∙ some);
  sound = subst (IsSound here) (sym same) order.sound;
}

-- ---- what is retired

fewer : {A : Type 0} (p : A → Bool) (xs : List A) → length (filter p xs) ≤ length xs
fewer p [] = omega arith
fewer p (x ∷ xs) = by (p x) (fewer p xs)
  where
    by : (b : Bool) → length (filter p xs) ≤ length xs → length (cond b (x ∷ filter p xs) (filter p xs)) ≤ length (x ∷ xs)
    by true less = omega arith
    by false less = omega arith

some_before : (n m : ℕ) → n ≤ m → 0 < n → 0 < m
some_before n m less some = omega arith

-- alerts only go
some_left : (moment : ℕ) (l : Local) → 0 < length (retired moment l).sinces → 0 < length l.sinces
unfolding retired
some_left moment l some = some_before (length (sinces_left moment l.held l.sinces)) (length l.sinces) (fewer _ l.sinces) some

retired_settles : (moment : ℕ) (l : Local) → (retired moment l).settling ≡ l.settling
unfolding retired
retired_settles moment l = refl

pub retired_in_order : (here : Here) (moment : ℕ) (old new : Site) → Retires moment old new → IsInOrder here old → IsInOrder here new
retired_in_order here moment old new retires order =
    let l = local_of here.tenant old in
    let is : local_of here.tenant new ≡ retired moment l = retires.local here.tenant in
    let settling : (local_of here.tenant new).settling ≡ l.settling = ap (λ (m : Local). m.settling) is ∙ retired_settles moment l in
    record {
      position = λ some.
          retires.keeps.positions here.tenant
          ∙ order.position (some_left moment l (subst (λ (m : Local). 0 < length m.sinces) is some))
          ∙ ap (λ (s : Settling). if here.stayed || s.has_settled then position_here here else None) (sym settling);
      asked = λ some. retires.keeps.asked here.tenant ∙ order.asked (sym (ap (λ (s : Settling). is_some s.asked_at) settling) ∙ some);
      sound = subst (IsSound here) (sym is) (retired_sound here moment l order.sound);
    }

-- ---- what it asks

module _ (here : Here) (old new : Site) (node : new.node ≡ old.node) where
  abbrev p : Progress
  p = progress_of here.tenant old.settling.progress

  abbrev q : Progress
  q = progress_of here.tenant new.settling.progress

  -- who is settled stays so, and whom it asks are the others
  pub stays_in_order : q.settling.has_settled ≡ p.settling.has_settled → (is_some q.settling.asked_at ≡ true → q.asked ≡ others here)
      → IsSound here (local_of here.tenant new) → IsInOrder here old → IsInOrder here new
  unfolding local_of
  stays_in_order settled asks sound order = record {
    position = λ some.
        ap (λ (n : Parts). (local_in_node here.tenant n).position) node
        ∙ order.position (subst (λ (n : Parts). 0 < length (sinces_in (local_in_node here.tenant n).plan)) node some)
        ∙ ap (λ b. if here.stayed || b then position_here here else None) (sym settled);
    asked = asks;
    sound = sound;
  }

  -- .. where it asks for the first time
  pub asks_in_order : q ≡ first_asked here.moment (others here) p → IsSound here (local_of here.tenant new) → IsInOrder here old → IsInOrder here new
  unfolding local_of
  asks_in_order is sound order = by (to_ask (others here) p.settling) is
    where
      by : (receivers : List ℕ) → q ≡ asked_of receivers (others here) here.moment p → IsInOrder here new
      by [] same =
          stays_in_order (ap (λ (x : Progress). x.settling.has_settled) same)
          (λ some. ap (λ (x : Progress). x.asked) same ∙ order.asked (sym (ap (λ (x : Progress). is_some x.settling.asked_at) same) ∙ some)) sound order
      by (i ∷ receivers) asked =
          stays_in_order (ap (λ (x : Progress). x.settling.has_settled) asked) (λ some. ap (λ (x : Progress). x.asked) asked) sound order
