-- Reactions that may move the groups of their tenant, or ask others.
use Rattle.std.proofs.Common.{◌≡◌, ℕ, ◌&&◌, List, ◌++◌, map, append_assoc, ap, sym, ◌∙◌}
use Rattle.am_cluster.specs.Local.{Local}
use Rattle.am_cluster.specs.Reactions.{Reaction, ◌>>◌}
use Rattle.am_context.proofs.Changes.{one_changes, other, own}
use Rattle.am_item.specs.declared.fault.Fault.{Fault}
use Rattle.am_item.specs.declared.fault.Fault.TheVariants.{OutOfMemory, CountsExhausted, PatternNotBuilt, StoreRefused}
use Rattle.am_site.specs.Locals.{local_of}
use Rattle.am_site.specs.Reacting.{Keeps, KeepsOthers, Moves, Reacts, StopsReacting, said_in}
use Rattle.am_site.specs.declared.said.Said.{Said as Spoken}
use Rattle.am_site.specs.declared.site.Site.{Site}

module _ (tenant : List ℕ) where
  pub others_kept : (a b : Site) → Keeps a b → KeepsOthers tenant a b
  others_kept a b kept = record {
    incarnation = kept.incarnation;
    positions = λ t apart. kept.positions t;
    asked = λ t apart. kept.asked t;
    timed = kept.timed;
  }

  pub others_both : (a b c : Site) → KeepsOthers tenant a b → KeepsOthers tenant b c → KeepsOthers tenant a c
  others_both a b c one two = record {
    incarnation = two.incarnation ∙ one.incarnation;
    positions = λ t apart. two.positions t apart ∙ one.positions t apart;
    asked = λ t apart. two.asked t apart ∙ one.asked t apart;
    timed = λ timed. two.timed (one.timed timed);
  }

  pub moves : (f : Local → Reaction) (a b : Site) (x y : List Spoken) → Reacts tenant f a b x y → Moves tenant f a b x y
  moves f a b x y one = record { local = one.local; said = one.said; fits = one.fits; keeps = others_kept a b one.keeps }

  pub moves_from : (f g : Local → Reaction) (a : Site) → f (local_of tenant a) ≡ g (local_of tenant a)
      → (c : Site) (x y : List Spoken) → Moves tenant f a c x y → Moves tenant g a c x y
  moves_from f g a is c x y one = record {
    local = one_changes tenant (λ l. (g l).local) (λ t. local_of t a) (λ t. local_of t c)
        (own tenant _ _ _ (one.local tenant) ∙ ap (λ (r : Reaction). r.local) is)
        (λ t apart. other t tenant _ _ _ apart (one.local t));
    said = one.said ∙ ap (λ (r : Reaction). map said_in x ++ r.said) is;
    fits = sym (ap (λ (r : Reaction). r.fits) is) ∙ one.fits;
    keeps = one.keeps;
  }

  module _ (f g : Local → Reaction) (a b : Site) (x y : List Spoken) (one : Moves tenant f a b x y) where
    abbrev first : Reaction
    first = f (local_of tenant a)

    mid : local_of tenant b ≡ first.local
    mid = own tenant _ _ _ (one.local tenant)

    pub in_turn_moves : (c : Site) (z : List Spoken) → Moves tenant g b c y z → Moves tenant (f >> g) a c x z
    in_turn_moves c z two = record {
      local = one_changes tenant (λ l. ((f >> g) l).local) (λ t. local_of t a) (λ t. local_of t c)
          (own tenant _ _ _ (two.local tenant) ∙ ap (λ l. (g l).local) mid)
          (λ t apart. other t tenant _ _ _ apart (two.local t) ∙ other t tenant _ _ _ apart (one.local t));
      said = two.said ∙ ap (λ l. map said_in y ++ (g l).said) mid ∙ ap (λ said. said ++ (g first.local).said) one.said
          ∙ append_assoc (map said_in x) first.said (g first.local).said;
      fits = ap (λ b. b && (g first.local).fits) one.fits ∙ ap (λ l. (g l).fits) (sym mid) ∙ two.fits;
      keeps = others_both a b c one.keeps two.keeps;
    }

    -- what stops the second stops both
    pub stops_after : (fault : Fault) → StopsReacting tenant g b fault → StopsReacting tenant (f >> g) a fault
    stops_after OutOfMemory stops = tt
    stops_after CountsExhausted stops =
        ap (λ b. b && (g first.local).fits) one.fits ∙ ap (λ l. (g l).fits) (sym mid) ∙ stops
    stops_after PatternNotBuilt stops = stops
    stops_after StoreRefused stops = stops
