-- What was returned for a request, within the limit on the bytes of alerts, is what may be decided on it here.
use Rattle.std.proofs.Common.{◌≡◌, inl, inr, ◌∙◌, ℕ, ◌+◌, ◌<◌, ◌≤◌, ◌==◌, ◌&&◌, nat_lt, Bool, true, false, List, length, Option, Some, None}
use Rattle.std.proofs.Common.{Ok, Err, Result, codes, if◌then◌else◌, ap, arith, refl, subst, sym}
use Rattle.am_alert.specs.Made.{counts_fit, greatest_count}
use Rattle.am_api.specs.Choice.{BuildsAccepted, IsRefusedBuild, MayDecide}
use Rattle.am_api.specs.Deciding.{DecidesBy, IsUnbuilt, decision_of}
use Rattle.am_api.specs.Decision.{decided}
use Rattle.am_api.specs.Patterns.{patterns_of_request}
use Rattle.am_api.specs.Refusing.{Refuses, stored_asked}
use Rattle.am_api.specs.Replied.{Decision, refused}
use Rattle.am_api.specs.declared.decision.Decided.{Decided}
use Rattle.am_api.proofs.Choice.{Returns, items_fit, items_have_room, may_decide}
use Rattle.am_cluster.specs.Local.{Local}
use Rattle.am_cluster.specs.Operating.{alert_bytes_in, decision_on, goes_past, maker, posts_to_alerts, within_bytes, words}
use Rattle.am_config.specs.Configuration.{Configuration}
use Rattle.am_current.specs.Current.{configuration_in}
use Rattle.am_http.specs.declared.request.Request.{Request}
use Rattle.am_item.specs.Best.{all_joined}
use Rattle.am_item.specs.declared.fault.Fault.{Fault}
use Rattle.am_item.specs.declared.fault.Fault.TheVariants.{CountsExhausted, OutOfMemory, PatternNotBuilt, StoreRefused}
use Rattle.am_item.specs.declared.item.Item.{Item}
use Rattle.am_listing.specs.Failing.{patterns_in_use}
use Rattle.am_pattern.specs.Cache.{Cache}
use Rattle.am_words.specs.Words.{generator_of}
use Rattle.rand_chacha.specs.ChaCha.{ChaCha}
use Rattle.am_site.specs.Deciding.{IsDecided, StopsDeciding, stored_on}
use Rattle.am_site.specs.Here.{here_of}
use Rattle.am_site.specs.declared.here.Here.{Here as Given}

-- ---- what the limit makes of a decision

-- .. that goes past it, or doesn't
abbrev pub by_bytes : Bool → Decision → Decision
by_bytes b d = if b then refused 429 (codes "Li5") else d

-- with another status none does
past_other : (limit : Option ℕ) (request : Request) (list : List Item) (status : ℕ) (items : List Item)
    → (status == 200) ≡ false → goes_past limit request list status items ≡ false
past_other None request list status items other = refl
past_other (Some most) request list status items other = by (posts_to_alerts request.endpoint request.method)
  where
    by : (b : Bool)
        → (b && status == 200 && counts_fit items && nat_lt most (alert_bytes_in (all_joined list items))) ≡ false
    by true = rw other refl
    by false = refl

-- .. nor with a count past the greatest
past_unfit : (limit : Option ℕ) (request : Request) (list : List Item) (status : ℕ) (items : List Item)
    → counts_fit items ≡ false → goes_past limit request list status items ≡ false
past_unfit None request list status items unfit = refl
past_unfit (Some most) request list status items unfit =
    by (posts_to_alerts request.endpoint request.method) (status == 200) (counts_fit items) unfit
  where
    by : (b s f : Bool) → f ≡ false → (b && s && f && nat_lt most (alert_bytes_in (all_joined list items))) ≡ false
    by true true f e = rw e refl
    by true false f e = refl
    by false s f e = refl

-- a refusal for a pattern has another status
other_status : (d : Decision) → IsUnbuilt d → (d.status == 200) ≡ false
other_status d (inl e) = ap (λ (x : Decision). x.status == 200) e
other_status d (inr (inl e)) = ap (λ (x : Decision). x.status == 200) e
other_status d (inr (inr e)) = ap (λ (x : Decision). x.status == 200) e

fits_by : (b : Bool) (d : Decision) → counts_fit d.items ≡ true → counts_fit (by_bytes b d).items ≡ true
fits_by true d fits = refl
fits_by false d fits = fits

room_by : (b : Bool) (d : Decision) (used : ℕ) → (0 < length d.items → used + length d.items ≤ greatest_count)
    → 0 < length (by_bytes b d).items → used + length (by_bytes b d).items ≤ greatest_count
room_by true d used room some = absurd (omega (arith, some))
room_by false d used room some = room some

built_by : (b : Bool) (request : Request) (d : Decision) → BuildsAccepted request d → BuildsAccepted request (by_bytes b d)
built_by true request d built (inl some) = absurd (omega (arith, some))
built_by true request d built (inr low) = absurd (omega (arith, low))
built_by false request d built accepted = built accepted

-- ---- what is returned

-- the decision on a request, before its bytes are looked at
abbrev pub unlimited : Given → Request → List Item → Local → Decision
unlimited here request list l =
    decided request list here.limits here.moment (maker (here_of here) l.ledger)
    (words here.service_key.now (here_of here) l.ledger)

pub returned_here : (old new : Cache) (result : Result Decided Fault) (here : Given) (request : Request) (list : List Item) (l : Local)
    (config : Configuration) (number used drawn : ℕ) (next : ChaCha) → config ≡ configuration_in list → number ≡ here.instance
    → used ≡ l.ledger.stamps → drawn ≡ l.ledger.drawn
    → next ≡ generator_of here.service_key.now here.tenant.now number here.incarnation drawn
    → DecidesBy (Refuses request here.limits old new) old.refused new.refused (patterns_of_request request)
    (stored_asked request (patterns_in_use config here.moment list)) result
    (decided request list here.limits here.moment (record { instance = number; incarnation = here.incarnation; used = used }) next)
    → Returns old new result request here.limits (stored_on here request list) (unlimited here request list l)
returned_here old new result here request list l config number used drawn next config_is number_is used_is drawn_is next_is returned =
    rw (next_is, config_is, used_is, drawn_is, number_is) at returned

module _ (old new : Cache) (here : Given) (request : Request) (list : List Item) where
  abbrev past : Decision → Bool
  past d = goes_past here.limits.alert_bytes request list d.status d.items

  abbrev within : Decision → Decision
  within d = within_bytes here.limits.alert_bytes request list d

  may_within : (d decision : Decision) → MayDecide old.refused new.refused request here.limits decision d
      → MayDecide old.refused new.refused request here.limits (within decision) (within d)
  may_within d decision (inl is) = inl (ap within is.0, is.1)
  may_within d decision (inr build) =
      let stays : within d ≡ d = ap (λ b. by_bytes b d)
      (past_other here.limits.alert_bytes request list d.status d.items (other_status d build.unbuilt)) in
      inr (subst (IsRefusedBuild old.refused new.refused request here.limits) (sym stays) build)

  -- what the limit makes of what was returned may be decided
  pub decides_here : (l : Local) (d : Decided) (x : Decision) → x ≡ within (decision_of d)
      → Returns old new (Ok d) request here.limits (stored_on here request list) (unlimited here request list l)
      → BuildsAccepted request (decision_of d) → IsDecided old.refused new.refused here request list l x
  unfolding decision_on
  decides_here l d x is returned built =
      let stored = stored_on here request list in
      let whole = unlimited here request list l in
      let b = past (decision_of d) in
      subst (IsDecided old.refused new.refused here request list l) (sym is) (record {
        decision = may_within (decision_of d) whole (may_decide old new request here.limits stored (Ok d) whole returned);
        fits = fits_by b (decision_of d) (items_fit old new request here.limits stored (Ok d) whole returned);
        room = room_by b (decision_of d) l.ledger.stamps
            (items_have_room old new request here.limits stored (Ok d) list here.limits here.moment (maker (here_of here) l.ledger)
            (words here.service_key.now (here_of here) l.ledger) returned);
        built = built_by b request (decision_of d) built;
      })

  pub stops_here : (l : Local) (fault : Fault)
      → Returns old new (Err fault) request here.limits (stored_on here request list) (unlimited here request list l)
      → StopsDeciding new.refused here request list l fault
  unfolding decision_on
  stops_here l OutOfMemory returned = tt
  stops_here l CountsExhausted returned =
      let whole = unlimited here request list l in
      ap (λ b. counts_fit (by_bytes b whole).items)
      (past_unfit here.limits.alert_bytes request list whole.status whole.items returned)
      ∙ returned
  stops_here l PatternNotBuilt returned = returned
  stops_here l StoreRefused returned = absurd returned
