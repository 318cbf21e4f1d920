-- What an instance does with a message that comes, by whether it is meant and by the epoch.
use Rattle.std.proofs.Common.{◌≡◌, ◌⊎◌, ℕ, ◌==◌, true, false, List, Option, None, IfSome, arith, inr, ap, refl, sym, subst, ◌∙◌, if◌then◌else◌}
use Rattle.std.proofs.lemmas.Bool.{false≢true}
use Rattle.std.proofs.lemmas.Bool.Decides.{nat_tests}
use Rattle.am_api.specs.Replied.{Decision}
use Rattle.am_cluster.specs.Arriving.{Arrival, Counted, Dropped, Taken, arrival, arrive, does, is_meant}
use Rattle.am_cluster.specs.Here.{Here}
use Rattle.am_cluster.specs.Local.{Local}
use Rattle.am_cluster.specs.Messages.{Ack, Answer, Ask, Body, Get, Got, Message, Put, State, is_answer}
use Rattle.am_cluster.specs.Operating.{Decide}
use Rattle.am_cluster.specs.Operations.{Operation}
use Rattle.am_cluster.specs.Reactions.{stays, ◌>>◌}
use Rattle.am_cluster.specs.Transfers.{asks_first}
use Rattle.am_item.specs.declared.fault.Fault.{Fault}
use Rattle.am_item.specs.declared.fault.Fault.TheVariants.{OutOfMemory, CountsExhausted, PatternNotBuilt, StoreRefused}
use Rattle.am_item.specs.declared.item.Item.{Item}
use Rattle.am_site.specs.Arriving.{Arrives, IsMade, StopsArriving, StopsAs, StopsAsking, StopsAt, Takes, decided_by, decides, no_decision}
use Rattle.am_site.specs.Deciding.{IsDecided}
use Rattle.am_site.specs.Here.{here_of}
use Rattle.am_site.specs.Locals.{local_of}
use Rattle.am_site.specs.Reacting.{Moves, StopsReacting}
use Rattle.am_site.specs.declared.here.Here.{Here as Given}
use Rattle.am_site.specs.declared.said.Said.{Said as Spoken}
use Rattle.am_site.specs.declared.site.Site.{Site}
use Rattle.am_site.proofs.Moving.{in_turn_moves, moves, moves_from, stops_after}
use Rattle.am_site.proofs.Reacting.{nothing, stops_from}

pub same_epoch : (n m : ℕ) → n ≡ m → (n == m) ≡ true
same_epoch n m is = grind (arith, nat_tests)

pub another_epoch : (n m : ℕ) → (n ≡ m → ⊥) → (n == m) ≡ false
another_epoch n m apart = grind (arith, nat_tests)

-- ---- what becomes of it

module _ (here : Here) (message : Message) (l : Local) where
  pub unmeant_dropped : is_meant here message message.body l ≡ false → arrival here message l ≡ Dropped
  unmeant_dropped is = rw is refl

  pub late_dropped : is_meant here message message.body l ≡ true → (message.epoch == here.epoch) ≡ false → is_answer message.body ≡ false
      → arrival here message l ≡ Dropped
  late_dropped meant apart plain = rw (meant, apart, plain) refl

  pub late_counted : is_meant here message message.body l ≡ true → (message.epoch == here.epoch) ≡ false → is_answer message.body ≡ true
      → arrival here message l ≡ Counted
  late_counted meant apart answers = rw (meant, apart, answers) refl

  pub known_taken : is_meant here message message.body l ≡ true → (message.epoch == here.epoch) ≡ true → arrival here message l ≡ Taken
  known_taken meant known = rw (meant, known) refl

module _ (decide : Decide) (here : Here) (message : Message) (l : Local) where
  pub unmeant : is_meant here message message.body l ≡ false → arrive decide here message l ≡ stays l
  unfolding arrive
  unmeant is = rw is refl

  pub of_another_epoch : is_meant here message message.body l ≡ true → (message.epoch == here.epoch) ≡ false → is_answer message.body ≡ false
      → arrive decide here message l ≡ stays l
  unfolding arrive
  of_another_epoch meant apart plain = rw (meant, apart, plain) refl

  pub counted : is_meant here message message.body l ≡ true → (message.epoch == here.epoch) ≡ false → is_answer message.body ≡ true
      → does decide here message message.body l ≡ arrive decide here message l
  unfolding arrive
  counted meant apart answers = rw (meant, apart, answers) refl

  pub taken : is_meant here message message.body l ≡ true → (message.epoch == here.epoch) ≡ true
      → (does decide here message message.body >> asks_first here) l ≡ arrive decide here message l
  unfolding arrive
  taken meant known = rw (meant, known) refl

-- what doesn't answer an operation decides none
decides_none : (message : Message) (body : Body) (l : Local) → is_answer body ≡ false → decides message body l ≡ None
decides_none message (Answer operation incarnation items) l plain = absurd (false≢true (sym plain))
decides_none message (Ack operation incarnation) l plain = refl
decides_none message (Get operation) l plain = refl
decides_none message (Put operation items) l plain = refl
decides_none message (Ask incarnation) l plain = refl
decides_none message (State incarnation place is_last items) l plain = refl
decides_none message (Got incarnation place) l plain = refl

-- ---- what it does

module _ (given : Given) (before after : List (List ℕ)) (message : Message) (old : Site) where
  abbrev t : List ℕ
  t = given.tenant.now

  abbrev here : Here
  here = here_of given

  abbrev l : Local
  l = local_of t old

  none_made : (found : Option (Operation × List Item)) → found ≡ None → IfSome found (λ d. IsDecided before after given d.0.request d.1 l no_decision)
  none_made found is = rw is tt

  pub arrives_unmeant : (x : List Spoken) → is_meant here message message.body l ≡ false → Arrives given before after message old old x x
  arrives_unmeant x is = record {
    decision = no_decision;
    made = none_made (decided_by given message l) (ap (λ b. if b then decides message message.body l else None) is);
    moves = moves t (arrive (λ _ _ _ _. no_decision) here message) old old x x
        (nothing t (arrive (λ _ _ _ _. no_decision) here message) old x (unmeant (λ _ _ _ _. no_decision) here message l is));
  }

  pub arrives_late : (x : List Spoken) → is_meant here message message.body l ≡ true → (message.epoch == here.epoch) ≡ false → is_answer message.body ≡ false
      → Arrives given before after message old old x x
  arrives_late x meant apart plain = record {
    decision = no_decision;
    made = none_made (decided_by given message l) (ap (λ b. if b then decides message message.body l else None) meant ∙ decides_none message message.body l plain);
    moves = moves t (arrive (λ _ _ _ _. no_decision) here message) old old x x
        (nothing t (arrive (λ _ _ _ _. no_decision) here message) old x (of_another_epoch (λ _ _ _ _. no_decision) here message l meant apart plain));
  }

  -- why it stops where the message counts for its operation, and where it is taken
  pub stops_counted : (fault : Fault) → is_meant here message message.body l ≡ true → (message.epoch == here.epoch) ≡ false
      → is_answer message.body ≡ true → StopsAt after given message message.body old fault → StopsArriving before after given message old fault
  stops_counted fault meant apart answers stops =
      subst (λ (a : Arrival). StopsAs a before after given message old fault) (sym (late_counted here message l meant apart answers)) stops

  pub stops_taken : (fault : Fault) → is_meant here message message.body l ≡ true → (message.epoch == here.epoch) ≡ true
      → StopsAt after given message message.body old fault ⊎ StopsAsking before after given message old fault
      → StopsArriving before after given message old fault
  stops_taken fault meant known stops =
      subst (λ (a : Arrival). StopsAs a before after given message old fault) (sym (known_taken here message l meant known)) stops

  -- the decision that was made is that of the message
  is_made : (decision : Decision) → is_meant here message message.body l ≡ true
      → IfSome (decides message message.body l) (λ d. IsDecided before after given d.0.request d.1 l decision) → IsMade before after given message l decision
  is_made decision meant made =
      subst (λ (found : Option (Operation × List Item)). IfSome found (λ d. IsDecided before after given d.0.request d.1 l decision))
      (sym (ap (λ b. if b then decides message message.body l else None) meant)) made

  module _ (mid : Site) (x y : List Spoken) (meant : is_meant here message message.body l ≡ true)
      (takes : Takes given before after message message.body old mid x y) where
    abbrev decide : Decide
    decide _ _ _ _ = takes.decision

    pub arrives_counted : (message.epoch == here.epoch) ≡ false → is_answer message.body ≡ true → Arrives given before after message old mid x y
    arrives_counted apart answers = record {
      decision = takes.decision;
      made = is_made takes.decision meant takes.made;
      moves = moves_from t (does decide here message message.body) (arrive decide here message) old (counted decide here message l meant apart answers) mid x y takes.moves;
    }

    pub arrives_taken : (new : Site) (z : List Spoken) → (message.epoch == here.epoch) ≡ true → Moves t (asks_first here) mid new y z
        → Arrives given before after message old new x z
    arrives_taken new z known asks = record {
      decision = takes.decision;
      made = is_made takes.decision meant takes.made;
      moves = moves_from t (does decide here message message.body >> asks_first here) (arrive decide here message) old (taken decide here message l meant known) new x z
          (in_turn_moves t (does decide here message message.body) (asks_first here) old mid x y takes.moves new z asks);
    }

    -- why it stops as it asks
    pub stops_asking : (fault : Fault) → (message.epoch == here.epoch) ≡ true → StopsReacting t (asks_first here) mid fault
        → StopsArriving before after given message old fault
    stops_asking OutOfMemory known stops = stops_taken OutOfMemory meant known (inr tt)
    stops_asking CountsExhausted known stops = stops_taken CountsExhausted meant known (inr (
      takes.decision,
      (
        is_made takes.decision meant takes.made,
        stops_from t (does decide here message message.body >> asks_first here) (arrive decide here message) old (taken decide here message l meant known) CountsExhausted
            (stops_after t (does decide here message message.body) (asks_first here) old mid x y takes.moves CountsExhausted stops),
      ),
    ))
    stops_asking PatternNotBuilt known stops = absurd stops
    stops_asking StoreRefused known stops = absurd stops
