-- Where one instance reacts for one tenant: all that it puts out is the tenant's, and whoever waits for a reply asked.
use Rattle.std.proofs.Common.{◌≡◌, ◌≢◌, ◌⊎◌, ◌∙◌, inl, inr, ℕ, ◌&&◌, true, false, All, List, [], ◌∷◌, map, Some}
use Rattle.std.proofs.Common.{refl, sym, ap, subst, if◌then◌else◌}
use Rattle.std.proofs.lemmas.List.{append-nil}
use Rattle.std.proofs.lemmas.List.Elements.{All-cons, All-head, All-nil, All-tail, All-weaker}
use Rattle.am_cluster.specs.Courses.{after_all, course, fits_all, told_all}
use Rattle.am_cluster.specs.Events.{Event, Output}
use Rattle.am_cluster.specs.Happening.{Happening}
use Rattle.am_cluster.specs.Here.{Here}
use Rattle.am_cluster.specs.Local.{Local}
use Rattle.am_cluster.specs.Operations.{Operation}
use Rattle.am_cluster.specs.Outputs.{Tenant, are_owned, front_outputs, outputs_of, owner, replier}
use Rattle.am_cluster.specs.Patterns.{AreAllBuilt, AsksBuilt}
use Rattle.am_cluster.specs.PrivateCluster.{Course, PrivateCluster, output_of, react_one}
use Rattle.am_cluster.specs.Reactions.{Reaction, Replies, Said, Sends, Tells}
use Rattle.am_cluster.specs.Replying.{GoesOver, IsOver, KeepsAskers, ReplyOver, WaitOver}
use Rattle.am_cluster.specs.View.{Watch, adds, only_of, watch}
use Rattle.am_instance.specs.Here.{here_on}
use Rattle.am_instance.specs.Instance.{local_in}
use Rattle.am_instance.specs.Reacting.{reaction_on}
use Rattle.am_world.specs.Consistent.{around_at}
use Rattle.am_world.specs.Places.{local_at}
use Rattle.am_world.specs.Simulation.{AreAsked, Stands}
use Rattle.am_world.specs.Steps.{Later}
use Rattle.am_world.specs.declared.state.State.{State}
use Rattle.am_tenant.specs.Names.{same}
use Rattle.am_tenant.proofs.Same.{same-refl, same_tells}
use Rattle.am_world.proofs.Beside.{IsAsAlone}
use Rattle.am_world.proofs.Alone.{Acts, Behaves, Over, other_stands, own_fits, own_outputs, own_stands}
use Rattle.am_world.proofs.AloneOwn.{AreOf, IsOf}
use Rattle.am_world.proofs.AlonePlaces.{at_each, local_here, local_other}

-- ---- what is the tenant's

-- it is, as far as is known
abbrev pub Owns : Watch → (t : List ℕ) → Output → Type 0
Owns u t output = owner u output ≡ Some (Tenant t)

pub of_tenant : (u : Watch) (s : List ℕ) (outs : List Output) → All (Owns u s) outs → (t : List ℕ) → same t s ≡ true
    → outputs_of t u outs ≡ outs
of_tenant u s [] all t same_too = refl
of_tenant u s (o ∷ os) all t same_too =
    rw (All-head (Owns u s) o os all)
    (rw same_too (ap (λ outs. o ∷ outs) (of_tenant u s os (All-tail (Owns u s) o os all) t same_too)))

pub not_of_other : (u : Watch) (s : List ℕ) (outs : List Output) → All (Owns u s) outs → (t : List ℕ)
    → same t s ≡ false → outputs_of t u outs ≡ []
not_of_other u s [] all t other = refl
not_of_other u s (o ∷ os) all t other =
    rw (All-head (Owns u s) o os all) (rw other (not_of_other u s os (All-tail (Owns u s) o os all) t other))

pub not_of_front : (u : Watch) (s : List ℕ) (outs : List Output) → All (Owns u s) outs → front_outputs u outs ≡ []
not_of_front u s [] all = refl
not_of_front u s (o ∷ os) all =
    rw (All-head (Owns u s) o os all) (not_of_front u s os (All-tail (Owns u s) o os all))

pub all_owned : (u : Watch) (s : List ℕ) (outs : List Output) → All (Owns u s) outs → are_owned u outs ≡ true
all_owned u s [] all = refl
all_owned u s (o ∷ os) all =
    rw (All-head (Owns u s) o os all) (all_owned u s os (All-tail (Owns u s) o os all))

-- ---- who asked is known still

pub over_later : (v u : Watch) (t : List ℕ) (os : List Operation) → Later v u → WaitOver (Over v t) os
    → WaitOver (Over u t) os
over_later v u t os later all =
    All-weaker (λ (o : Operation). Over v t o.connection o.request) (λ (o : Operation). Over u t o.connection o.request)
    (λ o asked. later.asked o.connection t asked) os all

pub asked_later : (v u : Watch) (w : State) → Later v u → AreAsked v w → AreAsked u w
asked_later v u w later asked t i = over_later v u t (local_at t i w.instances).operations later (asked t i)

pub later_itself : (v : Watch) → Later v v
later_itself v = record { asked = λ c t e. e; answered = λ c e. e }

-- ---- one instance reacts

-- what is said, as it goes out
word_owned : (T : List ℕ) (n k : ℕ) (v u : Watch) (word : Said) → Later v u → GoesOver (Over v T) word → IsOf T word
    → Owns u T (output_of T n k word)
unfolding owner
word_owned T n k v u (Replies c bytes) later goes own = ap replier (later.asked c T goes.1)
word_owned T n k v u (Sends m) later goes own = ap (λ name. Some (Tenant name)) own
word_owned T n k v u (Tells s) later goes own = refl

words_owned : (T : List ℕ) (n k : ℕ) (v u : Watch) (said : List Said) → Later v u → ReplyOver (Over v T) said
    → AreOf T said → All (Owns u T) (map (output_of T n k) said)
words_owned T n k v u [] later over own = All-nil (Owns u T)
words_owned T n k v u (word ∷ said) later over own =
    All-cons (Owns u T) (output_of T n k word) (map (output_of T n k) said)
    (word_owned T n k v u word later (All-head (GoesOver (Over v T)) word said over) (All-head (IsOf T) word said own))
    (words_owned T n k v u said later (All-tail (GoesOver (Over v T)) word said over) (All-tail (IsOf T) word said own))

-- where all that is known afterwards is this, and the reaction leads to no other askers
module _ (i moment : ℕ) (T : List ℕ) (f : Here → Local → Reaction) (told : List Output) (w w' : State)
    (a : Acts i moment T f told w w') (behaves : Behaves f) (v : Watch) (asked : AreAsked v w)
    (keeps : (here : Here) → KeepsAskers (Over v T) (f here)) where
  waits : (t : List ℕ) → WaitOver (Over v t) (local_in t a.x).operations
  waits t =
      subst (λ (l : Local). WaitOver (Over v t) l.operations) (local_here t i w.instances a.x a.is_at) (asked t i)

  over : IsOver (Over v T) (reaction_on (around_at moment w) a.x T f)
  over = keeps (here_on (around_at moment w) a.x T) (local_in T a.x) (waits T)

  -- all that it puts out is the tenant's
  pub told_owned : (u : Watch) → Later v u → All (Owns u T) told
  unfolding here_on
  told_owned u later =
      let said : List Said = (reaction_on (around_at moment w) a.x T f).said in
      subst (All (Owns u T)) (sym a.reacts.outputs)
      (words_owned T a.x.number a.x.incarnation v u said later over.1
      (behaves.own (here_on (around_at moment w) a.x T) (local_in T a.x)))

  pub front_silent : (u : Watch) → Later v u → front_outputs u told ≡ []
  front_silent u later = not_of_front u T told (told_owned u later)

  pub told_is_owned : (u : Watch) → Later v u → are_owned u told ≡ true
  told_is_owned u later = all_owned u T told (told_owned u later)

  -- .. and whoever waits for a reply had asked
  asked_here : (t : List ℕ) → WaitOver (Over v t) (local_at t i w'.instances).operations
  asked_here t =
      subst (λ (l : Local). WaitOver (Over v t) l.operations) (sym (local_here t i w'.instances a.y a.is_then))
      (by_tenant (same_tells t T))
    where
      by_tenant : ((same t T ≡ true) × (t ≡ T)) ⊎ ((same t T ≡ false) × (t ≢ T))
          → WaitOver (Over v t) (local_in t a.y).operations
      by_tenant (inl mine) =
          let here : WaitOver (Over v T) (local_in T a.y).operations =
          subst (λ (l : Local). WaitOver (Over v T) l.operations)
          (sym (a.reacts.local T
          ∙ ap (λ b. if b then (reaction_on (around_at moment w) a.x T f).local else local_in T a.x) (same-refl T)))
          over.0 in
          subst (λ s. WaitOver (Over v s) (local_in s a.y).operations) (sym mine.1) here
      by_tenant (inr other) =
          subst (λ (l : Local). WaitOver (Over v t) l.operations)
          (sym (a.reacts.local t
          ∙ ap (λ b. if b then (reaction_on (around_at moment w) a.x t f).local else local_in t a.x) other.0))
          (waits t)

  pub asked_then : AreAsked v w'
  asked_then t =
      at_each (λ j. WaitOver (Over v t) (local_at t j w'.instances).operations) i (asked_here t)
      (λ j h. subst (λ (l : Local). WaitOver (Over v t) l.operations)
      (sym (local_other t i j w.instances w'.instances a.others h)) (asked t j))

  -- ---- what an event is, by which it reacts

  -- the tenant's cluster reacts likewise to what happens to it
  own_alone : (p : PrivateCluster) (e : Event) (h : Happening) (b : Watch) → Stands T w p → adds T b e ≡ h ∷ []
      → watch b e ≡ v → course p h ≡ react_one f moment i p → AsksBuilt p h → IsAsAlone T b p e told w'
  own_alone p e h b s added seen is built = record {
    stands = subst (λ hs. Stands T w' (after_all p hs)) (sym added)
        (subst (Stands T w') (sym (ap (λ (q : Course). q.cluster) is))
        (own_stands i moment T f told w w' a behaves p s));
    told = λ u later.
        of_tenant u T told (told_owned u (subst (λ x. Later x u) seen later)) T (same-refl T)
        ∙ own_outputs i moment T f told w w' a p s ∙ ap (λ (q : Course). q.outputs) (sym is)
        ∙ sym (append-nil (course p h).outputs) ∙ ap (told_all p) (sym added);
    fits = ap (fits_all p) added ∙ ap (λ (q : Course). q.fits && true) is
        ∙ ap (λ c. c && true) (own_fits i moment T f told w w' a p s);
    built = subst (AreAllBuilt p) (sym added) (built, tt);
  }

  pub other_alone : (t : List ℕ) (p : PrivateCluster) (e : Event) (b : Watch) → same t T ≡ false → Stands t w p
      → adds t b e ≡ [] → watch b e ≡ v → IsAsAlone t b p e told w'
  other_alone t p e b other s none seen = record {
    stands = subst (λ hs. Stands t w' (after_all p hs)) (sym none)
        (other_stands i moment T f told w w' a behaves t p other s);
    told = λ u later.
        not_of_other u T told (told_owned u (subst (λ x. Later x u) seen later)) t other
        ∙ ap (told_all p) (sym none);
    fits = ap (fits_all p) none;
    built = subst (AreAllBuilt p) (sym none) tt;
  }

  -- what happens to the tenant is this, and nothing happens to any other
  pub alone : (t : List ℕ) (p : PrivateCluster) (e : Event) (h : Happening) (b : Watch) → Stands t w p
      → ((s : List ℕ) → adds s b e ≡ only_of s T h) → watch b e ≡ v
      → (Stands T w p → course p h ≡ react_one f moment i p) → (Stands T w p → AsksBuilt p h)
      → IsAsAlone t b p e told w'
  alone t p e h b s added seen is built = by_tenant (same_tells t T)
    where
      by_tenant : ((same t T ≡ true) × (t ≡ T)) ⊎ ((same t T ≡ false) × (t ≢ T)) → IsAsAlone t b p e told w'
      by_tenant (inl mine) =
          let own : Stands T w p = subst (λ x. Stands x w p) mine.1 s in
          subst (λ x. IsAsAlone x b p e told w') (sym mine.1)
          (own_alone p e h b own (added T ∙ ap (λ c. if c then h ∷ [] else []) (same-refl T)) seen (is own) (built own))
      by_tenant (inr other) =
          other_alone t p e b other.0 s (added t ∙ ap (λ c. if c then h ∷ [] else []) other.0) seen
