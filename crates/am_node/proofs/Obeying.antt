-- Things are done one after the other: what is done so far, what was said, and what is left to do.
use Rattle.std.proofs.Common.{◌≡◌, ℕ, true, false, ◌&&◌, List, [], ◌∷◌, ◌++◌, refl, sym, ap, ◌∙◌, subst, append_assoc}
use Rattle.std.proofs.Common.{append-nil}
use Rattle.am_context.proofs.Changes.{other, own}
use Rattle.am_item.specs.declared.fault.Fault.{Fault}
use Rattle.am_item.specs.declared.fault.Fault.TheVariants.{OutOfMemory, CountsExhausted, PatternNotBuilt, StoreRefused}
use Rattle.am_tenant.specs.Names.{same}
use Rattle.am_node.specs.declared.parts.Parts.{Parts}
use Rattle.am_node.specs.Held.{Does, StopsFor, local_of}
use Rattle.am_node.specs.Local.{Local, Reaction, Said, each}
use Rattle.am_node.proofs.Locals.{done}

-- from one state on some were done; with those that are left it comes to what all make
pub record IsOnWay {A : Type 0} (react : A → Local → Reaction) (tenant : List ℕ) (start : Parts) (all : List A) (now : Parts) (left : List A) (told : List Said) : Type 0 where
  pub local : (each react left (local_of tenant now)).local ≡ (each react all (local_of tenant start)).local
  pub said : told ++ (each react left (local_of tenant now)).said ≡ (each react all (local_of tenant start)).said
  pub fits : (each react left (local_of tenant now)).fits ≡ (each react all (local_of tenant start)).fits
  pub others : (t : List ℕ) → same t tenant ≡ false → local_of t now ≡ local_of t start

module _ {A : Type 0} (react : A → Local → Reaction) (tenant : List ℕ) (start : Parts) (all : List A) where
  pub begins : (told : List Said) → told ≡ [] → IsOnWay react tenant start all start all told
  begins told none = record {
    local = refl;
    said = ap (λ words. words ++ (each react all (local_of tenant start)).said) none;
    fits = refl;
    others = λ t apart. refl;
  }

  module _ (now : Parts) where
    pub goes_on : (x : A) (before left : List A) (told more : List Said) (after : Parts) → before ≡ x ∷ left → IsOnWay react tenant start all now before told
        → Does tenant (react x) now after → more ≡ told ++ (react x (local_of tenant now)).said → (react x (local_of tenant now)).fits ≡ true
        → IsOnWay react tenant start all after left more
    goes_on x before left told more after first is_on does adds fits =
        let on : IsOnWay react tenant start all now (x ∷ left) told = subst (λ xs. IsOnWay react tenant start all now xs told) first is_on in
        let one = react x (local_of tenant now) in
        let moved : local_of tenant after ≡ one.local = own tenant (one.local) (local_of tenant now) (local_of tenant after) (does tenant) in
        record {
          local = ap (λ l. (each react left l).local) moved ∙ on.local;
          said = ap (λ l. more ++ (each react left l).said) moved ∙ ap (λ words. words ++ (each react left (one.local)).said) adds
              ∙ append_assoc told one.said (each react left (one.local)).said ∙ on.said;
          fits = ap (λ l. (each react left l).fits) moved ∙ ap (λ b. b && (each react left (one.local)).fits) (sym fits) ∙ on.fits;
          others = λ t apart. other t tenant _ _ _ apart (does t) ∙ on.others t apart;
        }

    pub ends : (left : List A) (told : List Said) → left ≡ [] → IsOnWay react tenant start all now left told → Does tenant (each react all) start now
    ends left told over is_on =
        let on : IsOnWay react tenant start all now [] told = subst (λ xs. IsOnWay react tenant start all now xs told) over is_on in
        done tenant (each react all) start now on.local on.others

    pub says_all : (left : List A) (told : List Said) → left ≡ [] → IsOnWay react tenant start all now left told → told ≡ (each react all (local_of tenant start)).said
    says_all left told over is_on =
        let on : IsOnWay react tenant start all now [] told = subst (λ xs. IsOnWay react tenant start all now xs told) over is_on in
        sym (append-nil told) ∙ on.said

    pub fits_all : (left : List A) (told : List Said) → left ≡ [] → IsOnWay react tenant start all now left told → (each react all (local_of tenant start)).fits ≡ true
    fits_all left told over is_on =
        let on : IsOnWay react tenant start all now [] told = subst (λ xs. IsOnWay react tenant start all now xs told) over is_on in
        sym on.fits

    -- what stops the next one stops all
    pub stops : (x : A) (before left : List A) (told : List Said) (fault : Fault) → before ≡ x ∷ left → IsOnWay react tenant start all now before told
        → StopsFor (react x (local_of tenant now)) fault → StopsFor (each react all (local_of tenant start)) fault
    stops x before left told OutOfMemory first is_on stop = tt
    stops x before left told CountsExhausted first is_on stop =
        let on : IsOnWay react tenant start all now (x ∷ left) told = subst (λ xs. IsOnWay react tenant start all now xs told) first is_on in
        sym on.fits ∙ ap (λ b. b && (each react left ((react x (local_of tenant now)).local)).fits) stop
    stops x before left told PatternNotBuilt first is_on stop = stop
    stops x before left told StoreRefused first is_on stop = stop
