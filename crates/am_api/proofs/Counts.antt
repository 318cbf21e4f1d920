-- The counts of a decision's items.
use Rattle.std.proofs.Common.{◌≡◌, ℕ, ◌+◌, ◌<◌, ◌≤◌, ◌&&◌, if◌then◌else◌, nat_le, nat_lt, zero, suc, Bool, true, false, Option, None, Some, List, [], ◌∷◌, length, Result, Ok, Err, refl, arith}
use Rattle.std.proofs.lemmas.Bool.Decides.{nat_tests}
use Rattle.am_http.specs.declared.request.Method.{Method}
use Rattle.am_http.specs.declared.request.Method.TheVariants.{Get, Post, Delete}
use Rattle.am_http.specs.declared.request.Endpoint.{Endpoint}
use Rattle.am_http.specs.declared.request.Endpoint.TheVariants.{Alerts, AlertGroups, Silences, Silence, Receivers, Configuration}
use Rattle.am_http.specs.declared.request.Request.{Request}
use Rattle.am_limit.specs.declared.limits.Limits.{Limits}
use Rattle.am_config.specs.declared.refusal.ConfigRefusal.{ConfigRefusal}
use Rattle.am_config.specs.Configuration as config
use Rattle.am_item.specs.declared.item.Alert.{Alert}
use Rattle.am_item.specs.declared.item.Item.{Item}
use Rattle.am_alert.specs.Made.{counts_fit, greatest_count, items_from, made, last_of_each}
use Rattle.am_alert.specs.Posted as alerts
use Rattle.am_alert.specs.declared.refusal.PostedRefusal.{PostedRefusal}
use Rattle.am_alert.specs.declared.maker.Maker.{Maker}
use Rattle.am_config.specs.Judging.{configuration}
use Rattle.am_draft.specs.Drafts as drafts
use Rattle.am_item.specs.Best.{item_at}
use Rattle.am_item.specs.declared.key.ThingKey.TheVariants.{Configuration as ConfigurationKey}
use Rattle.am_current.specs.Current.{configuration_in}
use Rattle.am_match.specs.Matchers.{MatcherText}
use Rattle.am_silence.specs.Changing as changing
use Rattle.am_silence.specs.Held.{SilenceValue}
use Rattle.am_silence.specs.Posted as silences
use Rattle.am_silence.specs.declared.refusal.SilenceRefusal.{SilenceRefusal}
use Rattle.am_words.specs.Draws.{new_id}
use Rattle.am_words.specs.Ids.{id_in}
use Rattle.am_words.specs.Words.{words_in}
use Rattle.rand_chacha.specs.ChaCha.{ChaCha}
use Rattle.am_query.specs.declared.query.Query.{Query}
use Rattle.am_query.specs.declared.refusal.QueryRefusal.{QueryRefusal}
use Rattle.am_query.specs.Queries.{filters_in, group_query_in, query_in}
use Rattle.am_listing.specs.Written.{alerts_text}
use Rattle.am_group_list.specs.Written.{groups_text}
use Rattle.am_api.specs.Deciding.{AreCounted}
use Rattle.am_api.specs.Decision.{accepted_or_refused, alerts_decided, configuration_decided, count_with, decided, decided_by, groups_decided, listed_or_refused, read_or_none, receivers_decided, stored_or_refused, text_at}
use Rattle.am_api.specs.Replied.{Decision, stored}
use Rattle.am_api.specs.Silences as silencing

-- items with one count after another leave room, where none is past the greatest
room_more : (used more : ℕ) → used + 1 ≤ greatest_count → (0 < more → used + 1 + more ≤ greatest_count) → used + (1 + more) ≤ greatest_count
room_more used zero first rest = omega arith
room_more used (suc more) first rest = let all = rest (omega arith) in omega arith

left_true : (a b : Bool) → (a && b) ≡ true → a ≡ true
left_true true b e = refl
left_true false b e = e

right_true : (a b : Bool) → (a && b) ≡ true → b ≡ true
right_true true b e = e
right_true false b e = cc

-- counted items that fit leave no count past the greatest
pub room_counted : (used : ℕ) (items : List Item) → AreCounted used items → counts_fit items ≡ true → 0 < length items → used + length items ≤ greatest_count
room_counted used [] counted fit some = absurd (omega arith)
room_counted used (item ∷ items) counted fit some =
    let first : nat_le item.stamp.count greatest_count ≡ true = left_true _ (counts_fit items) fit in
    let bound : used + 1 ≤ greatest_count = let e : item.stamp.count ≡ used + 1 = counted.0 in grind (arith, nat_tests) in
    let all = room_more used (length items) bound (room_counted (used + 1) items counted.1 (right_true (nat_le item.stamp.count greatest_count) (counts_fit items) fit)) in
    omega arith

-- ---- the items of each decision are counted

counted_from : (held : List Item) (moment : ℕ) (maker : Maker) (posted : List Alert) → AreCounted maker.used (items_from held moment maker posted)
unfolding items_from
counted_from held moment maker [] = tt
counted_from held moment maker (alert ∷ posted) = (refl, counted_from held moment (record maker { used = maker.used + 1 }) posted)

counted_within : (past : Bool) (held : List Item) (moment : ℕ) (maker : Maker) (posted : List Alert) (decision : Decision) → decision.items ≡ [] →
    AreCounted maker.used (let chosen : Decision = if past then decision else stored (made held moment maker posted) 200 [] in chosen.items)
unfolding made
counted_within true held moment maker posted decision none = rw none tt
counted_within false held moment maker posted decision none = counted_from held moment maker (last_of_each posted)

counted_posted : (limit : ℕ) (held : List Item) (moment : ℕ) (maker : Maker) (outcome : Result (List Alert) PostedRefusal) →
    AreCounted maker.used (stored_or_refused limit held moment maker outcome).items
counted_posted limit held moment maker (Ok posted) = counted_within (nat_lt limit (count_with held moment maker posted)) held moment maker posted _ refl
counted_posted limit held moment maker (Err reason) = tt

counted_listed : (text : Query → List ℕ) (used : ℕ) (outcome : Result Query QueryRefusal) → AreCounted used (listed_or_refused text outcome).items
counted_listed text used (Ok query) = tt
counted_listed text used (Err reason) = tt

counted_alerts : (c : config.Configuration) (request : Request) (method : Method) (held : List Item) (limits : Limits) (moment : ℕ) (maker : Maker) →
    AreCounted maker.used (alerts_decided c request method held limits moment maker).items
counted_alerts c request Get held limits moment maker = counted_listed (λ query. alerts_text c query moment held) maker.used (query_in request.query)
counted_alerts c request Post held limits moment maker = counted_posted limits.alerts held moment maker (alerts.posted moment c.resolve_timeout request.body)
counted_alerts c request Delete held limits moment maker = tt

counted_groups : (c : config.Configuration) (request : Request) (method : Method) (held : List Item) (moment used : ℕ) →
    AreCounted used (groups_decided c request method held moment).items
counted_groups c request Get held moment used = counted_listed (λ query. groups_text c query moment held) used (group_query_in request.query)
counted_groups c request Post held moment used = tt
counted_groups c request Delete held moment used = tt

counted_accepted : (held : List Item) (moment : ℕ) (maker : Maker) (outcome : Result config.Configuration ConfigRefusal) →
    AreCounted maker.used (accepted_or_refused held moment maker outcome).items
counted_accepted held moment maker (Ok c) = (refl, tt)
counted_accepted held moment maker (Err reason) = tt

counted_document : (past : Bool) (used : ℕ) (refusal other : Decision) → refusal.items ≡ [] → AreCounted used other.items →
    AreCounted used (let chosen : Decision = if past then refusal else other in chosen.items)
counted_document true used refusal other none counted = rw none tt
counted_document false used refusal other none counted = counted

counted_read : (used : ℕ) (text : Option (List ℕ)) → AreCounted used (read_or_none text).items
counted_read used None = tt
counted_read used (Some text) = tt

counted_configuration : (request : Request) (method : Method) (held : List Item) (limits : Limits) (moment : ℕ) (maker : Maker) →
    AreCounted maker.used (configuration_decided request method held limits moment maker).items
counted_configuration request Get held limits moment maker = counted_read maker.used (text_at (item_at ConfigurationKey held))
counted_configuration request Post held limits moment maker =
    counted_document (nat_lt limits.configuration (length request.body)) maker.used _ (accepted_or_refused held moment maker (configuration (drafts.posted request.body)))
    refl (counted_accepted held moment maker (configuration (drafts.posted request.body)))
counted_configuration request Delete held limits moment maker = (refl, tt)

counted_receivers : (c : config.Configuration) (method : Method) (used : ℕ) → AreCounted used (receivers_decided c method).items
counted_receivers c Get used = tt
counted_receivers c Post used = tt
counted_receivers c Delete used = tt

-- ---- silences

counted_items : (maker : Maker) (ws : List changing.Write) → AreCounted maker.used (silencing.silence_items maker ws)
unfolding silencing.silence_items
counted_items maker [] = tt
counted_items maker (w ∷ ws) = (refl, counted_items (record maker { used = maker.used + 1 }) ws)

counted_new : (maker : Maker) (change : changing.Changed) (id : Option (List ℕ)) → AreCounted maker.used (silencing.new_stored maker change id).items
counted_new maker change None = tt
counted_new maker change (Some id) = counted_items maker (changing.writes_of change id)

counted_identified : (held : List Item) (maker : Maker) (words : ChaCha) (change : changing.Changed) (id : Option (List ℕ)) →
    AreCounted maker.used (silencing.identified held maker words change id).items
counted_identified held maker words change None = counted_new maker change (new_id (words_in words) words.word_pos held)
counted_identified held maker words change (Some id) = counted_items maker (changing.writes_of change id)

counted_changed : (limit : ℕ) (held : List Item) (moment : ℕ) (maker : Maker) (words : ChaCha) (outcome : Result changing.Changed SilenceRefusal) →
    AreCounted maker.used (silencing.changed_or_refused limit held moment maker words outcome).items
counted_changed limit held moment maker words (Ok change) =
    counted_document (nat_lt limit (silencing.count_with moment held change)) maker.used _ (silencing.identified held maker words change change.id) refl
    (counted_identified held maker words change change.id)
counted_changed limit held moment maker words (Err reason) = tt

counted_silence : (limit : ℕ) (held : List Item) (moment : ℕ) (maker : Maker) (words : ChaCha) (outcome : Result silences.Posted SilenceRefusal) →
    AreCounted maker.used (silencing.posted_or_refused limit held moment maker words outcome).items
counted_silence limit held moment maker words (Ok posted) = counted_changed limit held moment maker words (silencing.change_by held moment posted)
counted_silence limit held moment maker words (Err reason) = tt

counted_having : (held : List Item) (moment used : ℕ) (outcome : Result (List MatcherText) QueryRefusal) → AreCounted used (silencing.silences_or_refused held moment outcome).items
counted_having held moment used (Ok wanted) = tt
counted_having held moment used (Err reason) = tt

counted_silences : (request : Request) (method : Method) (held : List Item) (limits : Limits) (moment : ℕ) (maker : Maker) (words : ChaCha) →
    AreCounted maker.used (silencing.silences_decided request method held limits moment maker words).items
counted_silences request Get held limits moment maker words = counted_having held moment maker.used (filters_in request.query)
counted_silences request Post held limits moment maker words =
    counted_document (nat_lt limits.silence (length request.body)) maker.used _
    (silencing.posted_or_refused limits.silences held moment maker words (silences.posted moment request.body)) refl
    (counted_silence limits.silences held moment maker words (silences.posted moment request.body))
counted_silences request Delete held limits moment maker words = tt

counted_found : (moment used : ℕ) (found : Option SilenceValue) → AreCounted used (silencing.read_or_unknown moment found).items
counted_found moment used None = tt
counted_found moment used (Some silence) = tt

counted_expiry : (maker : Maker) (outcome : Result changing.Write SilenceRefusal) → AreCounted maker.used (silencing.expiry_or_refused maker outcome).items
counted_expiry maker (Ok w) = counted_items maker (w ∷ [])
counted_expiry maker (Err reason) = tt

counted_deleted : (held : List Item) (moment : ℕ) (maker : Maker) (id : Option (List ℕ)) → AreCounted maker.used (silencing.deleted_or_unknown held moment maker id).items
counted_deleted held moment maker None = tt
counted_deleted held moment maker (Some id) = counted_expiry maker (changing.deleted held id moment)

counted_one : (text : List ℕ) (method : Method) (held : List Item) (moment : ℕ) (maker : Maker) →
    AreCounted maker.used (silencing.silence_decided text method held moment maker).items
counted_one text Get held moment maker = counted_found moment maker.used (silencing.silence_named text held)
counted_one text Post held moment maker = tt
counted_one text Delete held moment maker = counted_deleted held moment maker (id_in text)

-- ---- all requests

counted_by : (c : config.Configuration) (request : Request) (endpoint : Endpoint) (held : List Item) (limits : Limits) (moment : ℕ) (maker : Maker) (words : ChaCha) →
    AreCounted maker.used (decided_by c request endpoint held limits moment maker words).items
counted_by c request Alerts held limits moment maker words = counted_alerts c request request.method held limits moment maker
counted_by c request AlertGroups held limits moment maker words = counted_groups c request request.method held moment maker.used
counted_by c request Silences held limits moment maker words = counted_silences request request.method held limits moment maker words
counted_by c request (Silence text) held limits moment maker words = counted_one text request.method held moment maker
counted_by c request Receivers held limits moment maker words = counted_receivers c request.method maker.used
counted_by c request Configuration held limits moment maker words = counted_configuration request request.method held limits moment maker

-- the items of a decision have one count after another
pub counted : (request : Request) (held : List Item) (limits : Limits) (moment : ℕ) (maker : Maker) (words : ChaCha) →
    AreCounted maker.used (decided request held limits moment maker words).items
unfolding decided
counted request held limits moment maker words = counted_by (configuration_in held) request request.endpoint held limits moment maker words

-- and leave room where they fit
pub room : (request : Request) (held : List Item) (limits : Limits) (moment : ℕ) (maker : Maker) (words : ChaCha) →
    counts_fit (decided request held limits moment maker words).items ≡ true → 0 < length (decided request held limits moment maker words).items →
    maker.used + length (decided request held limits moment maker words).items ≤ greatest_count
room request held limits moment maker words fit some =
    room_counted maker.used (decided request held limits moment maker words).items (counted request held limits moment maker words) fit some
