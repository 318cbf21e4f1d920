-- Each message that an instance tells has a count that it hadn't counted to before, and has counted to then.
use Rattle.std.proofs.Common.{◌≡◌, ◌≢◌, ◌⊎◌, ◌∙◌, inl, inr, ℕ, ◌+◌, ◌≤◌, ◌<◌, true, false, All, List, [], ◌∷◌}
use Rattle.std.proofs.Common.{sym, ap, subst, arith, if◌then◌else◌}
use Rattle.std.proofs.lemmas.Bool.{cases_Bool}
use Rattle.std.proofs.lemmas.List.Elements.{All-cons, All-head, All-map, All-nil, All-tail, All-weaker}
use Rattle.am_cluster.specs.Arriving.{arrive}
use Rattle.am_cluster.specs.Events.{Notice, Output, Reply, Send}
use Rattle.am_cluster.specs.Here.{Here}
use Rattle.am_cluster.specs.Local.{Local}
use Rattle.am_cluster.specs.Messages.{Message}
use Rattle.am_cluster.specs.Operating.{start}
use Rattle.am_cluster.specs.PrivateCluster.{output_of}
use Rattle.am_cluster.specs.Reactions.{Reaction, Replies, Said, Sends, Tells, messages_in}
use Rattle.am_cluster.specs.Ticking.{ticked}
use Rattle.am_cluster.proofs.Counted.{AreCounted, Counts, arrive_counted, start_counted, ticked_counted}
use Rattle.am_http.specs.declared.request.Fed.{Fed}
use Rattle.am_http.specs.declared.request.Fed.TheVariants as fed
use Rattle.am_messages.specs.Names.{name_of}
use Rattle.am_messages.specs.declared.name.MessageName.{MessageName}
use Rattle.am_tenant.specs.Names.{same}
use Rattle.am_tenant.proofs.Same.{same-refl, same_tells}
use Rattle.am_instance.specs.Bringing.{Brings}
use Rattle.am_instance.specs.Here.{Circumstances, here_on}
use Rattle.am_instance.specs.Instance.{local_in}
use Rattle.am_instance.specs.Reacting.{Reacts, reaction_on}
use Rattle.am_instance.specs.Receiving.{Receives}
use Rattle.am_instance.specs.Ticks.{Ticks, TicksAll}
use Rattle.am_instance.specs.declared.instance.Instance.{Instance}
use Rattle.am_world.proofs.AloneOwn.{AreOf, IsOf, SaysOwn, arrive_own, start_own, ticked_own}
use Rattle.am_world.proofs.TickSaid.{each_said}

-- ---- new names

-- how many messages of a tenant the instance has counted
abbrev pub counted_in : List ℕ → Instance → ℕ
counted_in t x = (local_in t x).ledger.messages

-- a message of the name is one that it counted on the way from what it was to what it is
pub record IsNext (x x' : Instance) (name : MessageName) : Type 0 where
  pub from : name.from ≡ x.number
  pub incarnation : name.incarnation ≡ x.incarnation
  pub above : counted_in name.tenant x < name.count
  pub counted : name.count ≤ counted_in name.tenant x'

-- .. where it says a message
abbrev pub SaysNext : (x x' : Instance) → Said → Type 0
SaysNext x x' (Replies connection bytes) = Unit {0}
SaysNext x x' (Sends message) = IsNext x x' (name_of message)
SaysNext x x' (Tells sending) = Unit {0}

-- .. as it is put out
abbrev pub TellsNext : (x x' : Instance) → Output → Type 0
TellsNext x x' (Reply connection bytes) = Unit {0}
TellsNext x x' (Notice attempt tries url bytes) = Unit {0}
TellsNext x x' (Send message) = IsNext x x' (name_of message)

-- all messages among these are such, and it has uncounted none
pub record CountsOn (x x' : Instance) (told : List Output) : Type 0 where
  pub next : All (TellsNext x x') told
  pub grows : (t : List ℕ) → counted_in t x ≤ counted_in t x'

-- ---- what is said of one tenant

pub counts_rise : (i k a b : ℕ) (ms : List Message) → Counts i k a ms b → a ≤ b
counts_rise i k a b [] counts = let same : a ≡ b = counts in omega (arith, same)
counts_rise i k a b (m ∷ ms) counts =
    let more : a + 1 ≤ b = counts_rise i k (a + 1) b ms counts.3 in omega (arith, more)

module _ (x x' : Instance) (t : List ℕ) where
  message_next : (a : ℕ) (m : Message) (ms : List Message) → m.tenant ≡ t → counted_in t x ≤ a
      → Counts x.number x.incarnation a (m ∷ ms) (counted_in t x') → IsNext x x' (name_of m)
  message_next a m ms own low counts =
      let count : m.count ≡ a + 1 = counts.2 in
      let high : a + 1 ≤ counted_in t x' =
      counts_rise x.number x.incarnation (a + 1) (counted_in t x') ms counts.3 in
      let above : counted_in t x < m.count = omega (arith, count, low) in
      let counted : m.count ≤ counted_in t x' = omega (arith, count, high) in
      record {
        from = counts.0;
        incarnation = counts.1;
        above = subst (λ s. counted_in s x < m.count) (sym own) above;
        counted = subst (λ s. m.count ≤ counted_in s x') (sym own) counted;
      }

  pub said_next : (a : ℕ) (said : List Said) → AreOf t said → counted_in t x ≤ a
      → Counts x.number x.incarnation a (messages_in said) (counted_in t x') → All (SaysNext x x') said
  said_next a [] own low counts = All-nil (SaysNext x x')
  said_next a (Replies c bytes ∷ said) own low counts =
      All-cons (SaysNext x x') (Replies c bytes) said tt
      (said_next a said (All-tail (IsOf t) (Replies c bytes) said own) low counts)
  said_next a (Sends m ∷ said) own low counts =
      All-cons (SaysNext x x') (Sends m) said
      (message_next a m (messages_in said) (All-head (IsOf t) (Sends m) said own) low counts)
      (said_next (a + 1) said (All-tail (IsOf t) (Sends m) said own) (omega (arith, low)) counts.3)
  said_next a (Tells s ∷ said) own low counts =
      All-cons (SaysNext x x') (Tells s) said tt
      (said_next a said (All-tail (IsOf t) (Tells s) said own) low counts)

pub word_next : (x x' : Instance) (t : List ℕ) (i k : ℕ) (word : Said) → SaysNext x x' word
    → TellsNext x x' (output_of t i k word)
word_next x x' t i k (Replies c bytes) next = tt
word_next x x' t i k (Sends m) next = next
word_next x x' t i k (Tells s) next = tt

-- ---- a reaction

module _ (around : Circumstances) (tenant : List ℕ) (f : Here → Local → Reaction) (x x' : Instance)
    (told : List Output) (counted : (here : Here) → AreCounted here (f here))
    (own : (here : Here) → SaysOwn here (f here)) (reacts : Reacts around tenant f x x' [] told) where
  abbrev reacted : Reaction
  reacted = reaction_on around x tenant f

  reacted_local : local_in tenant x' ≡ reacted.local
  reacted_local =
      reacts.local tenant
      ∙ ap (λ b. if b then reacted.local else local_in tenant x) (same-refl tenant)

  reacted_counts : Counts x.number x.incarnation (counted_in tenant x) (messages_in reacted.said) (counted_in tenant x')
  unfolding here_on
  reacted_counts =
      subst
      (λ (l : Local). Counts x.number x.incarnation (counted_in tenant x) (messages_in reacted.said) l.ledger.messages)
      (sym reacted_local) (counted (here_on around x tenant) (local_in tenant x))

  reacted_own : AreOf tenant reacted.said
  unfolding here_on
  reacted_own = own (here_on around x tenant) (local_in tenant x)

  reacted_grows : (t : List ℕ) → counted_in t x ≤ counted_in t x'
  reacted_grows t = by_tenant (same_tells t tenant)
    where
      by_tenant : ((same t tenant ≡ true) × (t ≡ tenant)) ⊎ ((same t tenant ≡ false) × (t ≢ tenant))
          → counted_in t x ≤ counted_in t x'
      by_tenant (inl mine) =
          subst (λ s. counted_in s x ≤ counted_in s x') (sym mine.1)
          (counts_rise x.number x.incarnation (counted_in tenant x) (counted_in tenant x') (messages_in reacted.said)
          reacted_counts)
      by_tenant (inr other) =
          let kept : local_in t x' ≡ local_in t x =
          reacts.local t ∙ ap (λ b. if b then (reaction_on around x t f).local else local_in t x) other.0 in
          let stays : counted_in t x' ≡ counted_in t x = ap (λ (l : Local). l.ledger.messages) kept in
          omega (arith, stays)

  -- an instance that reacts counts its messages on
  pub reacts_on : CountsOn x x' told
  reacts_on = record {
    next = subst (All (TellsNext x x')) (sym reacts.outputs)
        (All-map (TellsNext x x') (output_of tenant x.number x.incarnation) reacted.said
        (All-weaker (SaysNext x x') (λ word. TellsNext x x' (output_of tenant x.number x.incarnation word))
        (λ word next. word_next x x' tenant x.number x.incarnation word next) reacted.said
        (said_next x x' tenant (counted_in tenant x) reacted.said reacted_own (omega arith) reacted_counts)));
    grows = reacted_grows;
  }

-- .. and so does one that gets a message
pub receives_on : (around : Circumstances) (message : Message) (x x' : Instance) (told : List Output)
    → Receives around message x x' [] told → CountsOn x x' told
receives_on around message x x' told receives =
    reacts_on around message.tenant (λ here. arrive (λ _ _ _ _. receives.decision) here message) x x' told
    (λ here. arrive_counted (λ _ _ _ _. receives.decision) here message)
    (λ here. arrive_own (λ _ _ _ _. receives.decision) here message) receives.reacts

-- .. and one that has what it had, where no message is told
pub silent_on : (x x' : Instance) → ((t : List ℕ) → local_in t x' ≡ local_in t x) → (told : List Output)
    → All (TellsNext x x') told → CountsOn x x' told
silent_on x x' local told next = record {
  next = next;
  grows = λ t.
      let stays : counted_in t x' ≡ counted_in t x = ap (λ (l : Local). l.ledger.messages) (local t) in
      omega (arith, stays);
}

-- .. and one to which bytes come
pub brings_on : (f : Fed) (c : ℕ) (around : Circumstances) (x x' : Instance) (told : List Output)
    → Brings f c around x x' [] told → CountsOn x x' told
brings_on fed.Waits c around x x' told brings =
    silent_on x x' brings.local told
    (subst (All (TellsNext x x')) (sym brings.outputs) (All-nil (TellsNext x x')))
brings_on (fed.Refused reason) c around x x' told brings =
    silent_on x x' brings.local told
    (subst (All (TellsNext x x')) (sym brings.outputs) (All-cons (TellsNext x x') _ [] tt (All-nil (TellsNext x x'))))
brings_on fed.Ready c around x x' told brings =
    silent_on x x' brings.local told
    (subst (All (TellsNext x x')) (sym brings.outputs) (All-cons (TellsNext x x') _ [] tt (All-nil (TellsNext x x'))))
brings_on (fed.Request request) c around x x' told brings =
    reacts_on around request.tenant (λ here. start here c request) x x' told (λ here. start_counted here c request)
    (λ here. start_own here c request) brings

-- ---- a tick

module _ (around : Circumstances) (x x' : Instance) (told : List Output) (ticks : TicksAll around x x' [] told) where
  abbrev turn : List ℕ → Reaction
  turn t = ticked (here_on around x t) (local_in t x)

  turn_counts : (t : List ℕ)
      → Counts x.number x.incarnation (counted_in t x) (messages_in (turn t).said) (counted_in t x')
  unfolding here_on
  turn_counts t =
      subst
      (λ (l : Local). Counts x.number x.incarnation (counted_in t x) (messages_in (turn t).said) l.ledger.messages)
      (sym (ticks.does t).local) (ticked_counted (here_on around x t) (local_in t x))

  turn_own : (t : List ℕ) → AreOf t (turn t).said
  unfolding here_on
  turn_own t = ticked_own (here_on around x t) (local_in t x)

  turn_next : All (λ (e : List ℕ × Said). SaysNext x x' e.1) ticks.all
  turn_next =
      each_said (λ t word. SaysNext x x' word) ticks.all
      (λ t. subst (All (SaysNext x x')) (sym (ticks.does t).says)
      (said_next x x' t (counted_in t x) (turn t).said (turn_own t) (omega arith) (turn_counts t)))

  all_on : CountsOn x x' told
  all_on = record {
    next = subst (All (TellsNext x x')) (sym ticks.outputs)
        (All-map (TellsNext x x') (λ (e : List ℕ × Said). output_of e.0 x.number x.incarnation e.1) ticks.all
        (All-weaker (λ (e : List ℕ × Said). SaysNext x x' e.1)
        (λ (e : List ℕ × Said). TellsNext x x' (output_of e.0 x.number x.incarnation e.1))
        (λ e next. word_next x x' e.0 x.number x.incarnation e.1 next) ticks.all turn_next));
    grows = λ t.
        counts_rise x.number x.incarnation (counted_in t x) (counted_in t x') (messages_in (turn t).said)
        (turn_counts t);
  }

-- an instance that ticks counts its messages on, of every tenant
pub ticks_on : (around : Circumstances) (x x' : Instance) (told : List Output) → Ticks around x x' [] told
    → CountsOn x x' told
ticks_on around x x' told ticks = elim (cases_Bool x.up) [
  | inl up ↦ all_on around x x' told (ticks.ticks up)
  | inr down ↦
      silent_on x x' (λ t. ap (local_in t) (ticks.idle down)) told
      (subst (All (TellsNext x x')) (sym (ticks.quiet down)) (All-nil (TellsNext x x')))
]
