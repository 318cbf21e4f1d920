-- What a private cluster keeps of instances that are down, where neither the ring nor an instance changes.
use Rattle.std.proofs.Common.{◌≡◌, ◌∙◌, ℕ, Bool, true, false, is_some, List, [], ◌∷◌, Option, None, Some, refl}
use Rattle.std.proofs.Common.{◌++◌, if◌then◌else◌}
use Rattle.std.specs.List.{list_all}
use Rattle.std.proofs.lemmas.Bool.{and_parts, false≢true}
use Rattle.am_cluster.specs.Courses.{after, after_all, course_by, delivered, handled_by, posted_in, refusal_of}
use Rattle.am_cluster.specs.Events.{Event, Open, Bytes, Close, Limits, Tick, Outcome, Deliver, Lose}
use Rattle.am_cluster.specs.Events.{Join, Leave, Crash, Restart, Learn, Force}
use Rattle.am_cluster.specs.Happening.{Happening, Asked, Changed, Delivered, Forced, Limited, Lost, Ticked, Tried}
use Rattle.am_cluster.specs.Here.{Here}
use Rattle.am_cluster.specs.Local.{Local}
use Rattle.am_cluster.specs.Messages.{Message}
use Rattle.am_cluster.specs.Moments.{effective, is_too_late}
use Rattle.am_cluster.specs.Operating.{Decide, decision_on, start}
use Rattle.am_cluster.specs.Arriving.{arrive}
use Rattle.am_cluster.specs.Delivery.{outcome}
use Rattle.am_cluster.specs.PrivateCluster.{Course, PrivateCluster, react, react_all, react_one, unchanged}
use Rattle.am_cluster.specs.Reactions.{Reaction}
use Rattle.am_cluster.specs.Roster.{Roster}
use Rattle.am_cluster.specs.View.{AskedAs, FrontAnswered, Reading, Seen, Shut, Watch, adds, asked_by, asked_on, look}
use Rattle.am_cluster.specs.View.{only_of}
use Rattle.am_http.specs.Verdict.{verdict}
use Rattle.am_http.specs.declared.request.Fed.{Fed}
use Rattle.am_http.specs.declared.request.Fed.TheVariants as fed
use Rattle.am_item.specs.declared.item.Item.{Item}
use Rattle.am_tenant.specs.Names.{same}
use Rattle.am_world.specs.Changes.{roster_then}

-- ---- what happens to a tenant

-- it is no change of the ring or of an instance
abbrev pub is_beside : Happening → Bool
is_beside (Changed event) = false
is_beside (Asked connection i moment request) = true
is_beside (Limited limits) = true
is_beside (Ticked moment) = true
is_beside (Tried i k number tries moment status) = true
is_beside (Delivered from k to count moment) = true
is_beside (Lost from k to count) = true
is_beside Forced = true

abbrev rows_by : Course → ℕ → List Item
rows_by course = course.cluster.rows

rows_react : (f : Here → Local → Reaction) (moment i : ℕ) (p : PrivateCluster) → rows_by (react f moment i p) ≡ p.rows
unfolding react_one
rows_react f moment i p = by_up (p.roster.up i)
  where
    by_up : (b : Bool) → rows_by (if b then react_one f moment i p else unchanged p) ≡ p.rows
    by_up true = refl
    by_up false = refl

rows_delivered : (decide : Decide) (moment : ℕ) (o : Option Message) (p : PrivateCluster)
    → rows_by (delivered decide moment o p) ≡ p.rows
rows_delivered decide moment None p = refl
rows_delivered decide moment (Some message) p =
    rows_react (λ here local. arrive decide here message local) moment message.to p

rows_handled : (decide : Decide) (p : PrivateCluster) (h : Happening) → is_beside h ≡ true
    → rows_by (handled_by decide p h) ≡ p.rows
unfolding handled_by react_all
rows_handled decide p (Changed event) never = absurd (false≢true never)
rows_handled decide p (Asked connection i moment request) is =
    rows_react (λ here local. start here connection request local) (effective moment p.clock) i p
rows_handled decide p (Limited limits) is = refl
rows_handled decide p (Ticked moment) is = refl
rows_handled decide p (Tried i k number tries moment status) is =
    rows_react (λ here local. outcome here number tries status local) (effective moment p.clock) i p
rows_handled decide p (Delivered from k to count moment) is =
    rows_delivered decide (effective moment p.clock) (posted_in p from k to count) p
rows_handled decide p (Lost from k to count) is = refl
rows_handled decide p Forced is = refl

pub rows_stay : (decide : Decide) (p : PrivateCluster) (h : Happening) → is_beside h ≡ true
    → (course_by decide p h).cluster.rows ≡ p.rows
unfolding course_by
rows_stay decide p h is = by_refusal (is_some (refusal_of p h))
  where
    by_refusal : (b : Bool) → rows_by (if b then unchanged p else handled_by decide p h) ≡ p.rows
    by_refusal true = refl
    by_refusal false = rows_handled decide p h is

pub rows_stay_all : (p : PrivateCluster) (hs : List Happening) → list_all is_beside hs ≡ true
    → (after_all p hs).rows ≡ p.rows
rows_stay_all p [] are = refl
rows_stay_all p (h ∷ hs) are =
    let parts = and_parts (is_beside h) _ are in
    rows_stay_all (after p h) hs parts.1 ∙ rows_stay (decision_on p.service_key) p h parts.0

-- ---- what an event is to it

-- neither the ring nor an instance changes by it
abbrev pub leaves_ring : Event → Bool
leaves_ring (Join i) = false
leaves_ring (Leave i) = false
leaves_ring (Crash i) = false
leaves_ring (Restart i) = false
leaves_ring (Learn i) = false
leaves_ring e = true

pub roster_beside : (e : Event) (roster : Roster) → leaves_ring e ≡ true → roster_then e roster ≡ roster
roster_beside (Open c i) roster is = refl
roster_beside (Bytes c moment piece) roster is = refl
roster_beside (Close c) roster is = refl
roster_beside (Limits tenant limits) roster is = refl
roster_beside (Tick moment) roster is = refl
roster_beside (Outcome attempt tries moment status) roster is = refl
roster_beside (Deliver name moment) roster is = refl
roster_beside (Lose name) roster is = refl
roster_beside (Join i) roster never = absurd (false≢true never)
roster_beside (Leave i) roster never = absurd (false≢true never)
roster_beside (Crash i) roster never = absurd (false≢true never)
roster_beside (Restart i) roster never = absurd (false≢true never)
roster_beside (Learn i) roster never = absurd (false≢true never)
roster_beside (Force tenant) roster is = refl

own_beside : (t tenant : List ℕ) (h : Happening) → is_beside h ≡ true → list_all is_beside (only_of t tenant h) ≡ true
own_beside t tenant h is = by_tenant (same t tenant)
  where
    by_tenant : (b : Bool) → list_all is_beside (if b then h ∷ [] else []) ≡ true
    by_tenant true = rw is refl
    by_tenant false = refl

fed_beside : (t : List ℕ) (c i moment : ℕ) (f : Fed) → list_all is_beside (asked_by t c i moment f) ≡ true
fed_beside t c i moment fed.Waits = refl
fed_beside t c i moment (fed.Refused reason) = refl
fed_beside t c i moment fed.Ready = refl
fed_beside t c i moment (fed.Request request) = own_beside t request.tenant (Asked c i moment request) refl

seen_beside : (t : List ℕ) (c moment : ℕ) (piece : List ℕ) (s : Option Seen)
    → list_all is_beside (asked_on t c moment piece s) ≡ true
seen_beside t c moment piece None = refl
seen_beside t c moment piece (Some (Reading i before)) = fed_beside t c i moment (verdict (before ++ piece))
seen_beside t c moment piece (Some (AskedAs tenant)) = refl
seen_beside t c moment piece (Some FrontAnswered) = refl
seen_beside t c moment piece (Some Shut) = refl

pub adds_beside : (t : List ℕ) (v : Watch) (e : Event) → leaves_ring e ≡ true → list_all is_beside (adds t v e) ≡ true
unfolding adds
adds_beside t v (Open c i) is = refl
adds_beside t v (Bytes c moment piece) is = by_moment (is_too_late moment)
  where
    by_moment : (b : Bool)
        → list_all is_beside (if b then [] else asked_on t c moment piece (look c v.table)) ≡ true
    by_moment true = refl
    by_moment false = seen_beside t c moment piece (look c v.table)
adds_beside t v (Close c) is = refl
adds_beside t v (Limits tenant limits) is =
    own_beside t tenant (Limited limits) refl
adds_beside t v (Tick moment) is = refl
adds_beside t v (Outcome a tries moment status) is =
    own_beside t a.tenant (Tried a.instance a.incarnation a.number tries moment status) refl
adds_beside t v (Deliver m moment) is =
    own_beside t m.tenant (Delivered m.from m.incarnation m.to m.count moment) refl
adds_beside t v (Lose m) is = own_beside t m.tenant (Lost m.from m.incarnation m.to m.count) refl
adds_beside t v (Join i) never = absurd (false≢true never)
adds_beside t v (Leave i) never = absurd (false≢true never)
adds_beside t v (Crash i) never = absurd (false≢true never)
adds_beside t v (Restart i) never = absurd (false≢true never)
adds_beside t v (Learn i) never = absurd (false≢true never)
adds_beside t v (Force tenant) is = own_beside t tenant Forced refl
