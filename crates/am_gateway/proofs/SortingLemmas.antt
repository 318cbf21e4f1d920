use Rattle.std.proofs.Common.{ℕ, ◌≡◌, ◌∙◌, ◌++◌, ◌∷◌, List, [], Option, Some, None, Bool, true, false, Result, Ok, Err, OnErr, refl, sym, ap, append_assoc, append-nil}
use Rattle.std.specs.Prelude.{if◌then◌else◌}
use Rattle.am_event.specs.declared.output.Output.{Output}
use Rattle.am_event.specs.declared.output.Output.TheVariants as output
use Rattle.am_serve.specs.Lanes.{under_way_of, waiting_of}
use Rattle.am_server.specs.declared.service.Notice.{Notice}
use Rattle.am_tenant.specs.Names.{same}
use Rattle.am_gateway.specs.Sorting.{is_on, late_replies, notices_of, or_else, reply_on, Keeps, KeepsSome, Queues, QueuesSome, TryLanes}
use Rattle.am_gateway.specs.declared.gateway.Try.{Try}
use Rattle.am_gateway.specs.declared.sorting.LateReply.{LateReply}

-- a first part of what all are waits behind those that waited first, and the rest is still to come
pub record Waits {X : Type 0} (first now : List X) (rest all : List X) : Type 0 where
  pub kept : List X
  pub all_are : all ≡ kept ++ rest
  pub waiting : now ≡ first ++ kept

-- what is sorted so far, with what the outputs that are left come to, is what all come to
pub record SortsSoFar (connection : Option ℕ) (first now : TryLanes) (first_replies replies : List LateReply)
    (reply : Option (List ℕ)) (all rest : List Output) : Type 0 where
  pub replied : or_else reply (reply_on connection rest) ≡ reply_on connection all
  pub late : Waits first_replies replies (late_replies connection rest) (late_replies connection all)
  pub waits : (t : List ℕ) → Waits (waiting_of t first) (waiting_of t now) (notices_of t rest) (notices_of t all)
  pub under_way : (t : List ℕ) → under_way_of t now ≡ under_way_of t first

pub waits_first : {X : Type 0} (first all : List X) → Waits first first all all
waits_first first all = record { kept = []; all_are = refl; waiting = sym (append-nil first) }

-- one more waits, where it is to
pub waits_more : {X : Type 0} (is : Bool) (first now new rest all : List X) (one : X) →
    new ≡ (if is then now ++ one ∷ [] else now) → Waits first now (if is then one ∷ rest else rest) all →
    Waits first new rest all
waits_more true first now new rest all one added w = record {
  kept = w.kept ++ one ∷ [];
  all_are = w.all_are ∙ sym (append_assoc w.kept (one ∷ []) rest);
  waiting = added ∙ ap (λ xs. xs ++ one ∷ []) w.waiting ∙ append_assoc first w.kept (one ∷ []);
}
waits_more false first now new rest all one added w = record {
  kept = w.kept;
  all_are = w.all_are;
  waiting = added ∙ w.waiting;
}

-- the same, where it isn't to
waits_less : {X : Type 0} (is : Bool) (first now new rest all : List X) (one : X) →
    new ≡ (if is then now else now ++ one ∷ []) → Waits first now (if is then rest else one ∷ rest) all →
    Waits first new rest all
waits_less true first now new rest all one added w = waits_more false first now new rest all one added w
waits_less false first now new rest all one added w = waits_more true first now new rest all one added w

-- where nothing is left, all wait
all_wait : {X : Type 0} (first now all : List X) → Waits first now [] all → now ≡ first ++ all
all_wait first now all w = w.waiting ∙ ap (λ xs. first ++ xs) (sym (append-nil w.kept) ∙ sym w.all_are)

pub queues_all : (first now : TryLanes) (all : List Output) →
    ((t : List ℕ) → Waits (waiting_of t first) (waiting_of t now) [] (notices_of t all)) → Queues first all now
queues_all first now all w t = all_wait (waiting_of t first) (waiting_of t now) (notices_of t all) (w t)

pub keeps_all : (connection : Option ℕ) (first now : List LateReply) (all : List Output) →
    Waits first now [] (late_replies connection all) → Keeps connection first all now
keeps_all connection first now all w = all_wait first now (late_replies connection all) w

module _ (connection : Option ℕ) (first now : TryLanes) (first_replies replies : List LateReply) (reply : Option (List ℕ)) (all : List Output) where
  -- where memory runs out, a first part does
  pub queues_some : (rest : List Output) (new : TryLanes) → ((t : List ℕ) → waiting_of t new ≡ waiting_of t now)
      → SortsSoFar connection first now first_replies replies reply all rest → QueuesSome first all new
  queues_some rest new stay s t =
      ((s.waits t).kept, notices_of t rest, (s.waits t).all_are, stay t ∙ (s.waits t).waiting)

  pub keeps_some : (rest : List Output) (new : List LateReply) → new ≡ replies
      → SortsSoFar connection first now first_replies replies reply all rest → KeepsSome connection first_replies all new
  keeps_some rest new stay s =
      (s.late.kept, late_replies connection rest, s.late.all_are, stay ∙ s.late.waiting)

  -- one notice more is sorted
  pub notice_more : (rest : List Output) (new : TryLanes) (notice : Notice Try)
      → ((t : List ℕ) → waiting_of t new ≡ (if same t notice.name.attempt.tenant then waiting_of t now ++ notice ∷ [] else waiting_of t now))
      → ((t : List ℕ) → under_way_of t new ≡ under_way_of t now)
      → SortsSoFar connection first now first_replies replies reply all
      (output.Notice notice.name.attempt notice.name.tries notice.url notice.request ∷ rest)
      → SortsSoFar connection first new first_replies replies reply all rest
  notice_more rest new notice added stay s = record {
    replied = s.replied;
    late = s.late;
    waits = λ t. waits_more (same t notice.name.attempt.tenant) _ _ _ _ _ notice (added t) (s.waits t);
    under_way = λ t. stay t ∙ s.under_way t;
  }

  or_before : (so_far : Option (List ℕ)) (is : Bool) (bytes : List ℕ) (rest : Option (List ℕ))
      → or_else (or_else so_far (if is then Some bytes else None)) rest ≡ or_else so_far (if is then Some bytes else rest)
  or_before (Some x) is bytes rest = refl
  or_before None true bytes rest = refl
  or_before None false bytes rest = refl

  -- one reply more is
  pub reply_more : (rest : List Output) (new_replies : List LateReply) (new_reply : Option (List ℕ)) (late : LateReply)
      → new_reply ≡ or_else reply (if is_on connection late.connection then Some late.bytes else None)
      → new_replies ≡ (if is_on connection late.connection then replies else replies ++ late ∷ [])
      → SortsSoFar connection first now first_replies replies reply all (output.Reply late.connection late.bytes ∷ rest)
      → SortsSoFar connection first now first_replies new_replies new_reply all rest
  reply_more rest new_replies new_reply late is kept s = record {
    replied = ap (λ r. or_else r (reply_on connection rest)) is
        ∙ or_before reply (is_on connection late.connection) late.bytes (reply_on connection rest) ∙ s.replied;
    late = waits_less (is_on connection late.connection) _ _ _ _ _ late kept s.late;
    waits = s.waits;
    under_way = s.under_way;
  }

pub on_err : {X E P : Type 0} (result : Result X E) → P → OnErr result P
on_err (Ok value) p = tt
on_err (Err error) p = p
