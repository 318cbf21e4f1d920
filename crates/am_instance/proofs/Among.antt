-- The same for all tenants, one after the other: what each has afterwards and what is said of it are what its own
-- reaction makes.
use Rattle.std.proofs.Common.{◌≡◌, ◌∙◌, ℕ, Bool, true, false, List, [], ◌∷◌, ◌++◌, inl, inr, ap, refl, sym, subst}
use Rattle.std.proofs.Common.{append-nil, if◌then◌else◌}
use Rattle.std.proofs.lemmas.Bool.{cases_Bool, false≢true}
use Rattle.am_cluster.specs.Events.{Output}
use Rattle.am_cluster.specs.Here.{Here}
use Rattle.am_cluster.specs.Local.{Local, blank}
use Rattle.am_cluster.specs.Reactions.{Reaction, Said, stays}
use Rattle.am_context.proofs.Changes.{other}
use Rattle.am_item.specs.declared.fault.Fault.{Fault}
use Rattle.am_item.specs.declared.fault.Fault.TheVariants.{OutOfMemory, CountsExhausted, PatternNotBuilt, StoreRefused}
use Rattle.am_site.specs.Reacting.{StopsReacting}
use Rattle.am_tenant.specs.Names.{same}
use Rattle.am_tenant.proofs.Same.{same_tells}
use Rattle.am_instance.specs.Changing.{ReactsAll, StopsReactingAll}
use Rattle.am_instance.specs.Here.{Circumstances, here_on}
use Rattle.am_instance.specs.Instance.{ReadsOn, local_in, refused_in}
use Rattle.am_instance.specs.Reacting.{Reacts, outputs_at, reaction_on}
use Rattle.am_instance.specs.Tenants.{AreAllNoted, AreNoted, is_noted}
use Rattle.am_instance.specs.Ticks.{IsDone, outputs_of_all, said_of}
use Rattle.am_instance.specs.declared.instance.Instance.{Instance}
use Rattle.am_instance.proofs.Blank.{IsInert}
use Rattle.am_instance.proofs.Noting.{neither_more, noted_before}
use Rattle.am_instance.proofs.Turns.{outputs_more, said_append, said_none, said_tagged, same_here, same_outputs_at}
use Rattle.am_instance.proofs.Turns.{tagged}
use Rattle.am_instance.proofs.Whole.{yours}

-- each of these tenants has what its own reaction makes of what it had, and that is said of it; every other has what it
-- had, and nothing is said
pub record ReactsAmong (around : Circumstances) (react : List ℕ → Here → Local → Reaction) (names : List (List ℕ))
    (x x' : Instance) (told : List Output) : Type 0 where
  pub all : List (List ℕ × Said)
  pub outputs : told ≡ outputs_of_all x all
  pub does : (t : List ℕ) → is_noted t names ≡ true
      → IsDone (reaction_on around x t (react t)) (local_in t x') (said_of t all)
  pub others : (t : List ℕ) → is_noted t names ≡ false → IsDone (stays (local_in t x)) (local_in t x') (said_of t all)

module _ (around : Circumstances) (react : List ℕ → Here → Local → Reaction) (x : Instance) where
  -- nothing is done for none
  pub none_among : (told : List Output) → told ≡ [] → ReactsAmong around react [] x x told
  none_among told none = record {
    all = [];
    outputs = none;
    does = λ t noted. absurd (false≢true noted);
    others = λ t out. record { local = refl; says = said_none t; fits = refl };
  }

  module _ (names : List (List ℕ)) (mid : Instance) (told : List Output) (reads : ReadsOn x mid)
      (some : ReactsAmong around react names x mid told) (tenant : List ℕ) (fresh : is_noted tenant names ≡ false) where
    abbrev next : Reaction
    next = reaction_on around mid tenant (react tenant)

    -- what the tenant's reaction is
    own_next : (t : List ℕ) → t ≡ tenant
        → react tenant (here_on around mid t) (local_in t mid) ≡ reaction_on around x t (react t)
    own_next t is =
        let out : is_noted t names ≡ false = ap (λ s. is_noted s names) is ∙ fresh in
        ap (λ here. react tenant here (local_in t mid)) (same_here around x mid reads t)
        ∙ ap (react tenant (here_on around x t)) (some.others t out).local
        ∙ ap (λ s. react s (here_on around x t) (local_in t x)) (sym is)

    -- .. of one more
    pub one_among : (new : Instance) (after : List Output) → Reacts around tenant (react tenant) mid new told after
        → ReactsAmong around react (names ++ tenant ∷ []) x new after
    one_among new after one = record {
      all = some.all ++ tagged tenant next.said;
      outputs = one.outputs ∙ ap (λ os. os ++ outputs_at mid tenant next.said) some.outputs
          ∙ ap (λ os. outputs_of_all x some.all ++ os) (same_outputs_at around x mid reads tenant next.said)
          ∙ sym (outputs_more x some.all tenant next.said);
      does = λ t noted. elim (same_tells t tenant) [
        | inl is ↦ mine t is.0 is.1
        | inr apart ↦
            let done = some.does t (noted_before t names tenant apart.0 noted) in
            record {
              local = other t tenant _ _ _ apart.0 (one.local t) ∙ done.local;
              says = more_said t ∙ rw apart.0 (append-nil (said_of t some.all)) ∙ done.says;
              fits = done.fits;
            }
      ];
      others = λ t out.
          let apart = neither_more t names tenant out in
          let done = some.others t apart.0 in
          record {
            local = other t tenant _ _ _ apart.1 (one.local t) ∙ done.local;
            says = more_said t ∙ rw apart.1 (append-nil (said_of t some.all)) ∙ done.says;
            fits = refl;
          };
    }
      where
        more_said : (t : List ℕ) → said_of t (some.all ++ tagged tenant next.said)
            ≡ said_of t some.all ++ (if same t tenant then next.said else [])
        more_said t =
            said_append t some.all (tagged tenant next.said)
            ∙ ap (λ ws. said_of t some.all ++ ws) (said_tagged t tenant next.said)

        mine : (t : List ℕ) → same t tenant ≡ true → t ≡ tenant
            → IsDone (reaction_on around x t (react t)) (local_in t new) (said_of t (some.all ++ tagged tenant next.said))
        mine t own is =
            let out : is_noted t names ≡ false = ap (λ s. is_noted s names) is ∙ fresh in
            let same_next : next ≡ reaction_on around x t (react t) =
            ap (λ s. react tenant (here_on around mid s) (local_in s mid)) (sym is) ∙ own_next t is in
            record {
              local = yours t tenant _ _ _ own (one.local t) ∙ ap (λ (r : Reaction). r.local) (own_next t is);
              says = more_said t ∙ rw own refl ∙ ap (λ ws. ws ++ next.said) (some.others t out).says
                  ∙ ap (λ (r : Reaction). r.said) same_next;
              fits = sym (ap (λ (r : Reaction). r.fits) same_next) ∙ one.fits;
            }

    -- what stops it at one stops it at all
    pub one_stops_all : (fault : Fault) → StopsReacting tenant (react tenant (here_on around mid tenant)) mid.site fault
        → StopsReactingAll around react x fault
    unfolding local_in
    one_stops_all OutOfMemory stops = tt
    one_stops_all CountsExhausted stops =
        (tenant, sym (ap (λ (r : Reaction). r.fits) (own_next tenant refl)) ∙ stops)
    one_stops_all PatternNotBuilt stops = absurd stops
    one_stops_all StoreRefused stops = absurd stops

  -- where these are all of whom something is had, and nothing becomes of nothing
  pub all_among : (names : List (List ℕ)) (x' : Instance) (told before after : List Output) → AreAllNoted names x
      → AreNoted x
      → ((t : List ℕ) → IsInert (react t)) → ReactsAmong around react names x x' told → after ≡ before ++ told
      → refused_in x' ≡ refused_in x → ReactsAll around react x x' before after
  all_among names x' told before after noted were inert some behind refused = record {
    all = some.all;
    outputs = behind ∙ ap (λ os. before ++ os) some.outputs;
    does = λ t. elim (cases_Bool (is_noted t names)) [
      | inl is ↦ some.does t is
      | inr out ↦
          let nothing : local_in t x ≡ blank = were t (subst (λ ns. is_noted t ns ≡ false) noted.all out) in
          subst (λ (r : Reaction). IsDone r (local_in t x') (said_of t some.all))
          (ap stays nothing ∙ sym (inert t (here_on around x t)) ∙ ap (react t (here_on around x t)) (sym nothing))
          (some.others t out)
    ];
    refused = refused;
  }

  -- .. and put out
  pub all_put_out : (x' : Instance) (told before after : List Output) → ReactsAll around react x x' [] told
      → after ≡ before ++ told
      → ReactsAll around react x x' before after
  all_put_out x' told before after some behind = record {
    all = some.all;
    outputs = behind ∙ ap (λ os. before ++ os) some.outputs;
    does = some.does;
    refused = some.refused;
  }
