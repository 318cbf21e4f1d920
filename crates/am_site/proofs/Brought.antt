-- What a message leaves in the store and in the cache, by what becomes of it.
use Rattle.std.proofs.Common.{◌≡◌, ℕ, ◌==◌, Bool, true, false, List, Option, Some, None, Result, Ok, Err, ap, inl, refl, sym, subst, ◌∙◌}
use Rattle.std.proofs.lemmas.Bool.{false≢true}
use Rattle.am_cluster.specs.Arriving.{Arrival, Counted, Dropped, Taken, arrival, is_meant}
use Rattle.am_cluster.specs.Here.{Here}
use Rattle.am_cluster.specs.Local.{Local}
use Rattle.am_cluster.specs.Messages.{Ack, Answer, Ask, Body, Get, Got, Message, Put, State, is_answer}
use Rattle.am_cluster.specs.Reactions.{Reaction}
use Rattle.am_item.specs.declared.fault.Fault.{Fault}
use Rattle.am_item.specs.declared.fault.Fault.TheVariants.{OutOfMemory, CountsExhausted, PatternNotBuilt, StoreRefused}
use Rattle.am_item.specs.declared.item.Item.{Item}
use Rattle.am_node.specs.Local.{Local as NodeLocal}
use Rattle.am_node.specs.Storing.{AreRowsOf}
use Rattle.am_pattern.specs.Asking.{Asked, Stays}
use Rattle.am_pattern.specs.Cache.{Cache}
use Rattle.am_pattern.proofs.AskingLemmas.{grows-stays}
use Rattle.am_rows.specs.Refusing.{Medium}
use Rattle.am_site.specs.Arriving.{AsksAs, AsksAt, AsksFor, LeavesBrought, brought_at, brought_in}
use Rattle.am_site.specs.Here.{here_of}
use Rattle.am_site.specs.Reacting.{StopsReacting}
use Rattle.am_site.specs.declared.here.Here.{Here as Given}
use Rattle.am_site.specs.declared.site.Site.{Site}

-- ---- what it brings

-- what answers an operation brings nothing to hold
answers_bring : (body : Body) → is_answer body ≡ true → None ≡ brought_in body
answers_bring (Answer operation incarnation items) is = refl
answers_bring (Ack operation incarnation) is = refl
answers_bring (Get operation) is = absurd (false≢true is)
answers_bring (Put operation items) is = absurd (false≢true is)
answers_bring (Ask incarnation) is = absurd (false≢true is)
answers_bring (State incarnation place is_last items) is = absurd (false≢true is)
answers_bring (Got incarnation place) is = absurd (false≢true is)

-- a Put and a State bring what is held
pub puts_bring : (body : Body) (operation : ℕ) (items : List Item) → body ≡ Put operation items → brought_in body ≡ None → ⊥
puts_bring body operation items is none = let clash : Some items ≡ None = sym (ap brought_in is) ∙ none in cc

pub states_bring : (body : Body) (incarnation place : ℕ) (is_last : Bool) (items : List Item)
    → body ≡ State incarnation place is_last items → brought_in body ≡ None → ⊥
states_bring body incarnation place is_last items is none =
    let clash : Some items ≡ None = sym (ap brought_in is) ∙ none in cc

module _ (here : Here) (message : Message) (l : Local) where
  pub unmeant_brings : is_meant here message message.body l ≡ false → brought_at here message l ≡ None
  unmeant_brings is = rw is refl

  pub late_brings : is_meant here message message.body l ≡ true → (message.epoch == here.epoch) ≡ false
      → is_answer message.body ≡ false → brought_at here message l ≡ None
  late_brings meant apart plain = rw (meant, apart, plain) refl

  pub counted_brings : is_meant here message message.body l ≡ true → (message.epoch == here.epoch) ≡ false
      → is_answer message.body ≡ true → brought_at here message l ≡ brought_in message.body
  counted_brings meant apart answers = rw (meant, apart, answers) (answers_bring message.body answers)

  pub taken_brings : is_meant here message message.body l ≡ true → (message.epoch == here.epoch) ≡ true
      → brought_at here message l ≡ brought_in message.body
  taken_brings meant known = rw (meant, known) refl

-- ---- what is left

-- a sending stops for no store
pub stops_unrefused : (tenant : List ℕ) (react : Local → Reaction) (site : Site) (fault : Fault)
    → StopsReacting tenant react site fault → Some fault ≡ Some StoreRefused → ⊥
stops_unrefused tenant react site OutOfMemory stops is = let clash = is in cc
stops_unrefused tenant react site CountsExhausted stops is = let clash = is in cc
stops_unrefused tenant react site PatternNotBuilt stops is = let clash = is in cc
stops_unrefused tenant react site StoreRefused stops is = stops

module _ (Rejects : List ℕ → List Item → Type 0) (tenant : List ℕ) (moment : ℕ) (before : List ℕ → NodeLocal)
    (old new : Medium) (pairs : List (List ℕ × Item)) where
  abbrev Leaves : Option (List Item) → Option Fault → Type 0
  Leaves brought fault = LeavesBrought Rejects brought tenant moment before fault old new pairs

  pub left_as : (one other : Option (List Item)) (fault : Option Fault) → one ≡ other → Leaves other fault
      → Leaves one fault
  left_as one other fault is left = subst (λ (brought : Option (List Item)). Leaves brought fault) (sym is) left

  -- where nothing is brought, no store is asked
  pub left_alone : (brought : Option (List Item)) → brought ≡ None → AreRowsOf before pairs → Leaves brought None
  left_alone brought is stored =
      left_as brought None None is (record { rows = λ opens. inl stored; cause = λ refused. let clash = refused in cc })

  -- where a call ended in another fault
  pub left_then : (brought : Option (List Item)) (fault ending : Option Fault) → (ending ≡ Some StoreRefused → ⊥)
      → Leaves brought fault → Leaves brought ending
  left_then brought fault ending unrefused left = record {
    rows = left.rows;
    cause = λ refused. absurd (unrefused refused);
  }

-- ---- what is asked

-- what a call that went well leaves in a cache, one leaves whose next call fails
stays_asked : {Y F : Type 0} (result : Result Y F) (old new : Cache) → Stays old new → Asked result old new
stays_asked (Ok y) old new stays = stays
stays_asked (Err fault) old new stays = grows-stays old new stays

pub asks_then : {X Y F : Type 0} (E : Type 0) (given : Given) (message : Message) (body : Body) (l : Local) (x : X) (result : Result Y F)
    (old new : Cache) → AsksFor {X = X} {E = E} given message body l (Ok x) old new → AsksFor given message body l result old new
asks_then E given message (Answer operation incarnation items) l x result old new asks = asks
asks_then E given message (Put operation items) l x result old new asks = stays_asked result old new asks
asks_then E given message (State incarnation place is_last items) l x result old new asks = stays_asked result old new asks
asks_then E given message (Get operation) l x result old new same = same
asks_then E given message (Ack operation incarnation) l x result old new same = same
asks_then E given message (Ask incarnation) l x result old new same = same
asks_then E given message (Got incarnation place) l x result old new same = same

module _ {X E : Type 0} (given : Given) (message : Message) (l : Local) (result : Result X E) (old new : Cache) where
  asks_as : (a : Arrival) → arrival (here_of given) message l ≡ a → AsksAs a given message l result old new
      → AsksAt given message l result old new
  asks_as a is asks = subst (λ (b : Arrival). AsksAs b given message l result old new) (sym is) asks

  pub asks_dropped : arrival (here_of given) message l ≡ Dropped → new ≡ old → AsksAt given message l result old new
  asks_dropped is same = asks_as Dropped is same

  pub asks_counted : arrival (here_of given) message l ≡ Counted → AsksFor given message message.body l result old new
      → AsksAt given message l result old new
  asks_counted is asks = asks_as Counted is asks

  pub asks_taken : arrival (here_of given) message l ≡ Taken → AsksFor given message message.body l result old new
      → AsksAt given message l result old new
  asks_taken is asks = asks_as Taken is asks
