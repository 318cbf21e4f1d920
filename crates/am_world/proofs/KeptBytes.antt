-- A piece of a connection keeps the simulation, whatever the verdict on all of its bytes.
use Rattle.std.proofs.Common.{◌≡◌, ◌∙◌, ℕ, ◌==◌, ◌≤◌, Bool, true, false, List, [], ◌∷◌, ◌++◌, Option, None, Some, inl}
use Rattle.std.proofs.Common.{refl, sym, ap, subst, if◌then◌else◌}
use Rattle.am_cluster.specs.Courses.{after_all, course, course_by, fits_all, handled_by, refusal_of, told_all}
use Rattle.am_cluster.specs.Deciding.{deciding_at}
use Rattle.am_cluster.specs.Events.{Bytes, Output, Reply}
use Rattle.am_cluster.specs.Happening.{Asked}
use Rattle.am_cluster.specs.Here.{Here}
use Rattle.am_cluster.specs.Local.{Local}
use Rattle.am_cluster.specs.Moments.{effective, is_too_late, last_moment}
use Rattle.am_cluster.specs.Operating.{start}
use Rattle.am_cluster.specs.Outputs.{answered_by, are_owned, front_outputs, front_told, outputs_of, owner}
use Rattle.am_cluster.specs.Outputs.{refusal_reply}
use Rattle.am_cluster.specs.Patterns.{AreAllBuilt}
use Rattle.am_cluster.specs.PrivateCluster.{PrivateCluster, react_one}
use Rattle.am_cluster.specs.Reactions.{Reaction}
use Rattle.am_cluster.specs.Replying.{KeepsAskers, WaitOver}
use Rattle.am_cluster.specs.Roster.{IsSameRoster}
use Rattle.am_cluster.specs.View.{AskedAs, FrontAnswered, Reading, Watch, adds, asked_by, look, only_of, watch}
use Rattle.am_cluster.proofs.Counted.{start_counted}
use Rattle.am_cluster.proofs.ReplyPieces.{start_over}
use Rattle.am_http.specs.Connections.{left_open}
use Rattle.am_http.specs.Replies.{ready_reply}
use Rattle.am_http.specs.Verdict.{verdict}
use Rattle.am_http.specs.declared.refusal.FrontRefusal.{FrontRefusal}
use Rattle.am_http.specs.declared.request.Fed.{Fed}
use Rattle.am_http.specs.declared.request.Fed.TheVariants as fed
use Rattle.am_http.specs.declared.request.Request.{Request}
use Rattle.am_limit.specs.Books.{limits_of}
use Rattle.am_messages.specs.Posted.{posted_at}
use Rattle.am_messages.specs.declared.messages.Posted.{Posted}
use Rattle.am_messages.specs.declared.name.MessageName.{MessageName}
use Rattle.am_instance.specs.Bringing.{Brings, Says}
use Rattle.am_instance.specs.Instance.{GoesOn, IsSameNode, bytes_in, refused_in}
use Rattle.am_instance.specs.Reacting.{Reacts}
use Rattle.am_instance.specs.declared.instance.Instance.{Instance}
use Rattle.am_world.specs.Consistent.{IsConsistent, around_at}
use Rattle.am_world.specs.Places.{AreNumbered, Turns, bytes_at, instance_at, local_at}
use Rattle.am_world.specs.Posting.{posted_over}
use Rattle.am_world.specs.Shelves.{IsQuiet}
use Rattle.am_world.specs.Simulation.{AreAsked, Follows, Stands, limits_in, roster_of}
use Rattle.am_world.specs.Steps.{Later}
use Rattle.am_world.specs.Turning.{Does, Feeds}
use Rattle.am_world.specs.declared.common.Common.{Common}
use Rattle.am_world.specs.declared.state.State.{State}
use Rattle.am_world.proofs.Beside.{IsAsAlone, Kept, Premises}
use Rattle.am_world.proofs.Alone.{Acts, Behaves, Over, up_alike}
use Rattle.am_world.proofs.AloneKept.{adds_none, clock_before, effective_later, kept_nothing}
use Rattle.am_world.proofs.AloneOwn.{start_own}
use Rattle.am_world.proofs.AlonePlaces.{bytes_here, exists_then, local_here, locals_then, refused_here}
use Rattle.am_world.proofs.AlonePlaces.{refused_then}
use Rattle.am_world.proofs.AlonePlaces.{roster_stays, roster_then}
use Rattle.am_world.proofs.AloneRead.{adds_unread, front_unread, gives, later_seen, look_here, reading_after, says}
use Rattle.am_world.proofs.AloneRead.{seen_reading, sees, then_seen, watch_unread}
use Rattle.am_world.proofs.AloneTold.{alone, asked_later, asked_then, front_silent, told_is_owned}

-- ---- bytes that are refused

pub kept_late_bytes : (w : State) (c moment : ℕ) (piece : List ℕ) → is_too_late moment ≡ true
    → Kept w (Bytes c moment piece) w
unfolding watch adds front_told
kept_late_bytes w c moment piece late =
    kept_nothing w (Bytes c moment piece) (λ v follows. rw late refl)
    (λ t v p given. adds_none t v p (Bytes c moment piece) (rw late refl)) (λ v follows. rw late refl) refl
    (λ t limits. refl) (λ i. refl)

pub kept_unread_bytes : (w : State) (c moment : ℕ) (piece : List ℕ) → ((i : ℕ) → bytes_at c i w.instances ≡ None)
    → Kept w (Bytes c moment piece) w
kept_unread_bytes w c moment piece unread =
    kept_nothing w (Bytes c moment piece) (λ v follows. watch_unread v w c follows unread moment piece)
    (λ t v p given.
    adds_none t v p (Bytes c moment piece) (adds_unread v w c given.follows unread t moment piece))
    (λ v follows. front_unread v w c follows unread moment piece) refl (λ t limits. refl) (λ i. refl)

-- ---- bytes that are taken

-- what the front says, as far as is known
record IsFront (told : Fed) (outs : List Output) (u : Watch) (c : ℕ) : Type 0 where
  others : (t : List ℕ) → outputs_of t u outs ≡ []
  front : front_outputs u outs ≡ answered_by c told
  owned : are_owned u outs ≡ true

front_replies : (told : Fed) (u : Watch) (c : ℕ) (bytes : List ℕ) → answered_by c told ≡ Reply c bytes ∷ []
    → look c u.table ≡ Some FrontAnswered → IsFront told (Reply c bytes ∷ []) u c
unfolding owner
front_replies told u c bytes is seen = record {
  others = λ t. rw seen refl;
  front = rw seen (sym is);
  owned = rw seen refl;
}

-- this is what it says at such a verdict, and nothing happens to any tenant
record Fronts (i c moment : ℕ) (bytes : List ℕ) (told : Fed) (outs : List Output) : Type 0 where
  none : (t : List ℕ) → asked_by t c i moment told ≡ []
  posts : (m : ℕ) (name : MessageName) (o : Option Posted) → posted_over m outs name o ≡ o
  is_front : (v u : Watch) → Later (then_seen told i c bytes v) u → IsFront told outs u c

fronts_waits : (i c moment : ℕ) (bytes : List ℕ) → Fronts i c moment bytes fed.Waits []
fronts_waits i c moment bytes = record {
  none = λ t. refl;
  posts = λ m name o. refl;
  is_front = λ v u later. record { others = λ t. refl; front = refl; owned = refl };
}

fronts_refused : (i c moment : ℕ) (bytes : List ℕ) (reason : FrontRefusal)
    → Fronts i c moment bytes (fed.Refused reason) (Reply c (refusal_reply reason) ∷ [])
fronts_refused i c moment bytes reason = record {
  none = λ t. refl;
  posts = λ m name o. refl;
  is_front = λ v u later.
      front_replies (fed.Refused reason) u c (refusal_reply reason) refl
      (later.answered c (look_here c FrontAnswered v.table));
}

fronts_ready : (i c moment : ℕ) (bytes : List ℕ) → Fronts i c moment bytes fed.Ready (Reply c ready_reply ∷ [])
fronts_ready i c moment bytes = record {
  none = λ t. refl;
  posts = λ m name o. refl;
  is_front = λ v u later.
      front_replies fed.Ready u c ready_reply refl (later.answered c (look_here c FrontAnswered v.table));
}

-- what a request is to the cluster of its tenant
asked_course : (p : PrivateCluster) (c i moment : ℕ) (r : Request) → p.roster.up i ≡ true
    → course p (Asked c i moment r) ≡ react_one (λ here. start here c r) (effective moment p.clock) i p
unfolding course_by refusal_of handled_by
asked_course p c i moment r up = rw up refl

pub record TakesPiece (w w' : State) (i c moment : ℕ) (before piece : List ℕ) : Type 0 where
  pub x : Instance
  pub y : Instance
  pub is_at : instance_at i w.instances ≡ Some x
  pub is_then : instance_at i w'.instances ≡ Some y
  pub is_up : x.up ≡ true
  pub allowed : is_too_late moment ≡ false
  pub read : bytes_in c x ≡ Some before
  pub numbered : AreNumbered w.instances
  pub early : w.clock ≤ last_moment
  pub does : Does i (effective moment w.clock) (Feeds (around_at (effective moment w.clock) w) c piece) w w'
  pub goes : GoesOn x y
  pub refused : refused_in y ≡ refused_in x

module _ (w w' : State) (i c moment : ℕ) (before piece : List ℕ) (k : TakesPiece w w' i c moment before piece) where
  node : IsSameNode k.x k.y
  node = k.does.stays k.x k.y k.is_at k.is_then

  roster : IsSameRoster (roster_of w') (roster_of w)
  roster = roster_stays i w w' k.x k.y k.is_at k.is_then node k.goes.up k.does.others.others k.does.beside

  read_at : bytes_at c i w.instances ≡ Some before
  read_at = bytes_here c i w.instances k.x k.is_at ∙ k.read

  seen : (v : Watch) → Follows v w → look c v.table ≡ Some (Reading i before)
  seen v follows = seen_reading v w i c before follows read_at

  sees_so : (v : Watch) → Follows v w
      → watch v (Bytes c moment piece) ≡ then_seen (verdict (before ++ piece)) i c (before ++ piece) v
  sees_so v follows = sees v i c moment before piece k.allowed (seen v follows)

  -- what was decided of connections stays so
  later_so : (v : Watch) → Follows v w → Later v (watch v (Bytes c moment piece))
  later_so v follows =
      subst (Later v) (sym (sees_so v follows)) (later_seen v i c before _ (seen v follows))

  follows_so : (v : Watch) → Follows v w → Follows (watch v (Bytes c moment piece)) w'
  follows_so v follows =
      subst (λ u. Follows u w') (sym (sees_so v follows)) (record {
        reading = reading_after (verdict (before ++ piece)) i c v before (before ++ piece) w.instances w'.instances
            follows.reading (seen v follows) front k.does.others.others;
        roster = roster_then (roster_of w') (roster_of w) v.roster roster follows.roster;
      })
    where
      front : (d : ℕ) → bytes_at d i w'.instances
          ≡ (if d == c then left_open (verdict (before ++ piece)) (before ++ piece) else bytes_at d i w.instances)
      front d =
          bytes_here d i w'.instances k.y k.is_then
          ∙ (k.does.turns k.x k.y k.is_at k.is_then).front before k.read d
          ∙ ap (λ o. if d == c then left_open (verdict (before ++ piece)) (before ++ piece) else o)
          (sym (bytes_here d i w.instances k.x k.is_at))

  asked_so : (v : Watch) → Follows v w → AreAsked v w → AreAsked (watch v (Bytes c moment piece)) w
  asked_so v follows asked = asked_later v (watch v (Bytes c moment piece)) w (later_so v follows) asked

  -- what is kept whatever it brings
  kept_with : ((v : Watch) → Follows v w → AreAsked v w → AreAsked (watch v (Bytes c moment piece)) w')
      → ((t : List ℕ) (v : Watch) (p : PrivateCluster) → Premises t v p w
      → IsAsAlone t v p (Bytes c moment piece) k.does.told w')
      → ((v : Watch) → Follows v w → AreAsked v w → (u : Watch) → Later (watch v (Bytes c moment piece)) u
      → front_outputs u k.does.told ≡ front_told v (Bytes c moment piece))
      → ((v : Watch) → Follows v w → AreAsked v w → (u : Watch) → Later (watch v (Bytes c moment piece)) u
      → are_owned u k.does.told ≡ true) → Kept w (Bytes c moment piece) w'
  kept_with asked tenants front owned = record {
    follows = follows_so;
    asked = λ v follows new asks. asked v follows asks;
    outs = k.does.told;
    appended = k.does.appended;
    tenants = λ t v p given. inl (tenants t v p given);
    front = front;
    owned = owned;
    roster = roster;
    clock = k.does.beside.clock;
    limits = λ t. ap (λ (common : Common). limits_of t common.limits) k.does.beside.common;
    service_key = ap (λ (common : Common). common.service_key) k.does.beside.common;
    refused = refused_then i w.instances w'.instances
        (refused_here i w'.instances k.y k.is_then ∙ k.refused ∙ sym (refused_here i w.instances k.x k.is_at))
        k.does.others.others;
    faults = k.does.faults;
  }

  -- ---- the front answers by itself, or nothing is said

  kept_front : (told : Fed) (outs : List Output) → verdict (before ++ piece) ≡ told
      → Fronts i c moment (before ++ piece) told outs
      → Says outs k.x k.y [] k.does.told → Kept w (Bytes c moment piece) w'
  kept_front told outs is fronts says_so =
      kept_with (λ v follows asked t j.
      subst (λ (l : Local). WaitOver (Over (watch v (Bytes c moment piece)) t) l.operations) (sym (locals t j))
      (asked_so v follows asked t j))
      (λ t v p given. record {
        stands = subst (λ hs. Stands t w' (after_all p hs)) (sym (nothing t v given.follows)) (stands t p given.stands);
        told = λ u later. its v u given.follows later t ∙ ap (told_all p) (sym (nothing t v given.follows));
        fits = ap (fits_all p) (nothing t v given.follows);
        built = subst (AreAllBuilt p) (sym (nothing t v given.follows)) tt;
      })
      (λ v follows asked u later.
      ap (front_outputs u) says_so.outputs ∙ (fronts.is_front v u (seen_then v u follows later)).front
      ∙ sym (ap (answered_by c) is) ∙ sym (says v i c moment before piece k.allowed (seen v follows)))
      (λ v follows asked u later.
      ap (are_owned u) says_so.outputs ∙ (fronts.is_front v u (seen_then v u follows later)).owned)
    where
      locals : (t : List ℕ) (j : ℕ) → local_at t j w'.instances ≡ local_at t j w.instances
      locals t =
          locals_then t i w.instances w'.instances
          (local_here t i w'.instances k.y k.is_then ∙ says_so.local t ∙ sym (local_here t i w.instances k.x k.is_at))
          k.does.others.others

      nothing : (t : List ℕ) (v : Watch) → Follows v w → adds t v (Bytes c moment piece) ≡ []
      nothing t v follows =
          gives v i c moment before piece k.allowed (seen v follows) t ∙ ap (asked_by t c i moment) is ∙ fronts.none t

      seen_then : (v u : Watch) → Follows v w → Later (watch v (Bytes c moment piece)) u
          → Later (then_seen told i c (before ++ piece) v) u
      seen_then v u follows later =
          subst (λ f. Later (then_seen f i c (before ++ piece) v) u) is
          (subst (λ x. Later x u) (sees_so v follows) later)

      its : (v u : Watch) → Follows v w → Later (watch v (Bytes c moment piece)) u → (t : List ℕ)
          → outputs_of t u k.does.told ≡ []
      its v u follows later t =
          ap (outputs_of t u) says_so.outputs ∙ (fronts.is_front v u (seen_then v u follows later)).others t

      stands : (t : List ℕ) (p : PrivateCluster) → Stands t w p → Stands t w' p
      stands t p s = record {
        tenant = s.tenant;
        replicas_by = s.replicas_by;
        service_key = ap (λ (common : Common). common.service_key) k.does.beside.common ∙ s.service_key;
        clock = k.does.beside.clock ∙ s.clock;
        limits = (λ d. limits_in (record w { common = k.does.beside.common d }) t) ∙ s.limits;
        roster = roster_then (roster_of w') (roster_of w) p.roster roster s.roster;
        local = λ j. locals t j ∙ s.local j;
        posted = λ from incarnation to count.
            let name : MessageName =
            record { tenant = t; from = from; incarnation = incarnation; to = to; count = count } in
            k.does.posts name
            ∙ ap (λ os. posted_over (effective moment w.clock) os name (posted_at name w.messages)) says_so.outputs
            ∙ fronts.posts (effective moment w.clock) name (posted_at name w.messages)
            ∙ s.posted from incarnation to count;
        named = s.named;
      }

  -- ---- a whole request starts an operation

  kept_request : (r : Request) → verdict (before ++ piece) ≡ fed.Request r
      → Reacts (around_at (effective moment w.clock) w) r.tenant (λ here. start here c r) k.x k.y [] k.does.told
      → Kept w (Bytes c moment piece) w'
  unfolding deciding_at
  kept_request r is reacts =
      kept_with (λ v follows asked. asked_then i now r.tenant f k.does.told w w' a behaves
      (watch v (Bytes c moment piece)) (asked_so v follows asked) (keeps v follows))
      (λ t v p given. alone i now r.tenant f k.does.told w w' a behaves (watch v (Bytes c moment piece))
      (asked_so v given.follows given.asked) (keeps v given.follows) t p (Bytes c moment piece) (Asked c i moment r) v
      given.stands (added v given.follows) refl (course_of p) (λ s. tt))
      (λ v follows asked u later.
      front_silent i now r.tenant f k.does.told w w' a behaves (watch v (Bytes c moment piece))
      (asked_so v follows asked) (keeps v follows) u later
      ∙ sym (says v i c moment before piece k.allowed (seen v follows) ∙ ap (answered_by c) is))
      (λ v follows asked u later.
      told_is_owned i now r.tenant f k.does.told w w' a behaves (watch v (Bytes c moment piece))
      (asked_so v follows asked) (keeps v follows) u later)
    where
      now : ℕ
      now = effective moment w.clock

      f : Here → Local → Reaction
      f here = start here c r

      a : Acts i now r.tenant f k.does.told w w'
      a = record {
        x = k.x;
        y = k.y;
        is_at = k.is_at;
        is_then = k.is_then;
        is_up = k.is_up;
        reacts = reacts;
        node = node;
        stays_up = k.goes.up;
        posts = k.does.posts;
        others = k.does.others.others;
        numbered = k.numbered;
        beside = k.does.beside;
        later = effective_later moment w.clock;
        early = clock_before w k.early;
      }

      behaves : Behaves f
      behaves = record { own = λ here. start_own here c r; counted = λ here. start_counted here c r }

      asker : (v : Watch) → Follows v w → look c (watch v (Bytes c moment piece)).table ≡ Some (AskedAs r.tenant)
      asker v follows =
          ap (λ (u : Watch). look c u.table) (sees_so v follows)
          ∙ ap (λ told. look c (then_seen told i c (before ++ piece) v).table) is
          ∙ look_here c (AskedAs r.tenant) v.table

      keeps : (v : Watch) → Follows v w → (here : Here)
          → KeepsAskers (Over (watch v (Bytes c moment piece)) r.tenant) (f here)
      keeps v follows here = start_over (Over (watch v (Bytes c moment piece)) r.tenant) here c r (asker v follows)

      added : (v : Watch) → Follows v w → (t : List ℕ)
          → adds t v (Bytes c moment piece) ≡ only_of t r.tenant (Asked c i moment r)
      added v follows t =
          gives v i c moment before piece k.allowed (seen v follows) t ∙ ap (asked_by t c i moment) is

      course_of : (p : PrivateCluster) → Stands r.tenant w p
          → course p (Asked c i moment r) ≡ react_one f now i p
      course_of p s =
          asked_course p c i moment r (up_alike i now r.tenant f k.does.told w w' a r.tenant p s)
          ∙ ap (λ clock. react_one f (effective moment clock) i p) (sym s.clock)

  pub kept_piece : Kept w (Bytes c moment piece) w'
  kept_piece = by_verdict (verdict (before ++ piece)) refl
      ((k.does.turns k.x k.y k.is_at k.is_then).brings before k.read)
    where
      by_verdict : (told : Fed) → verdict (before ++ piece) ≡ told
          → Brings told c (around_at (effective moment w.clock) w) k.x k.y [] k.does.told
          → Kept w (Bytes c moment piece) w'
      by_verdict fed.Waits is brought = kept_front fed.Waits [] is (fronts_waits i c moment (before ++ piece)) brought
      by_verdict (fed.Refused reason) is brought =
          kept_front (fed.Refused reason) (Reply c (refusal_reply reason) ∷ []) is
          (fronts_refused i c moment (before ++ piece) reason) brought
      by_verdict fed.Ready is brought =
          kept_front fed.Ready (Reply c ready_reply ∷ []) is (fronts_ready i c moment (before ++ piece)) brought
      by_verdict (fed.Request r) is brought = kept_request r is brought

-- one that reads the connection is up
up_where_read : (c : ℕ) (before : List ℕ) (x : Instance) → IsQuiet x → bytes_in c x ≡ Some before → x.up ≡ true
up_where_read c before x quiet read = by_up x.up refl
  where
    by_up : (b : Bool) → x.up ≡ b → x.up ≡ true
    by_up true e = e
    by_up false e = let never : None ≡ Some before = sym ((quiet e).unread c) ∙ read in absurd cc

pub kept_bytes : (w w' : State) (i c moment : ℕ) (before piece : List ℕ) (x : Instance) → is_too_late moment ≡ false
    → instance_at i w.instances ≡ Some x → bytes_in c x ≡ Some before → IsConsistent w
    → Does i (effective moment w.clock) (Feeds (around_at (effective moment w.clock) w) c piece) w w'
    → Turns i (λ x x'. GoesOn x x' × (refused_in x' ≡ refused_in x)) w.instances w'.instances
    → Kept w (Bytes c moment piece) w'
kept_bytes w w' i c moment before piece x allowed here read consistent does stays =
    let there = exists_then i w.instances w'.instances x consistent.numbered does.others.numbered here in
    let both = stays x there.0 here there.1 in
    kept_piece w w' i c moment before piece (record {
      x = x;
      y = there.0;
      is_at = here;
      is_then = there.1;
      is_up = up_where_read c before x (consistent.quiet i x here) read;
      allowed = allowed;
      read = read;
      numbered = consistent.numbered;
      early = consistent.clock;
      does = does;
      goes = both.0;
      refused = both.1;
    })
