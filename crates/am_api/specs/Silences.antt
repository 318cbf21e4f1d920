-- What is decided on requests to the silences.
use Rattle.std.specs.Prelude.{ℕ, ◌+◌, Bool, not, ◌&&◌, is_some, nat_lt, List, [], ◌∷◌, codes, length, Option, Some}
use Rattle.std.specs.Prelude.{None, Result, Ok, Err, if◌then◌else◌}
use Rattle.std.specs.Option.{option_and_then}
use Rattle.rand_chacha.specs.ChaCha.{ChaCha}
use Rattle.am_text.specs.Outcome.{◌>>=◌}
use Rattle.am_http.specs.declared.request.Method.{Method}
use Rattle.am_http.specs.declared.request.Method.TheVariants.{Get, Post, Delete}
use Rattle.am_http.specs.declared.request.Request.{Request}
use Rattle.am_limit.specs.declared.limits.Limits.{Limits}
use Rattle.am_match.specs.Matchers.{MatcherText}
use Rattle.am_item.specs.declared.item.Item.{Item}
use Rattle.am_item.specs.declared.item.Thing.TheVariants as thing
use Rattle.am_item.specs.declared.silence.Silence.{Silence}
use Rattle.am_alert.specs.declared.maker.Maker.{Maker}
use Rattle.am_silence.specs.Changing.{Changed, Write, changed, deleted, writes_of}
use Rattle.am_silence.specs.Having.{having}
use Rattle.am_silence.specs.Held.{SilenceValue, silence_at, unexpired}
use Rattle.am_silence.specs.Posted as silences
use Rattle.am_silence.specs.Refusals as silence_refusals
use Rattle.am_silence.specs.declared.refusal.SilenceRefusal.{SilenceRefusal}
use Rattle.am_silence.specs.declared.refusal.SilenceRefusal.TheVariants.{Unknown, BadMatcher}
use Rattle.am_words.specs.Draws.{new_id, place_drawn}
use Rattle.am_words.specs.Ids.{id_in}
use Rattle.am_words.specs.Words.{words_in}
use Rattle.am_query.specs.declared.refusal.QueryRefusal.{QueryRefusal}
use Rattle.am_query.specs.Queries as queries
use Rattle.am_payload.specs.Silences.{posted_text, silence_text, silences_text}
use Rattle.am_api.specs.Replied.{Decision, refused, replied, stored}

-- ---- refusals

-- the status code of a silence that is refused
abbrev pub status_of : SilenceRefusal → ℕ
status_of Unknown = 404
status_of (BadMatcher reason) = queries.matcher_status reason
status_of _ = 400

abbrev pub refused_for : SilenceRefusal → Decision
refused_for reason = refused (status_of reason) (silence_refusals.code_of reason)

-- ---- identifiers that are given as text

-- a text that is no identifier is unknown
abbrev pub id_known : Option (List ℕ) → Result (Option (List ℕ)) SilenceRefusal
id_known None = Err Unknown
id_known (Some id) = Ok (Some id)

-- the identifier that a text is, where one is given
abbrev pub id_given : Option (List ℕ) → Result (Option (List ℕ)) SilenceRefusal
id_given None = Ok None
id_given (Some text) = id_known (id_in text)

-- the silence that a text identifies, where one is held
unfoldable pub silence_named : List ℕ → List Item → Option SilenceValue
silence_named text held = option_and_then (λ id. silence_at id held) (id_in text)

-- ---- items

-- a silence as it is stored
abbrev pub silence_of : Write → Silence
silence_of w = record {
  id = w.id;
  starts_at = w.details.starts_at;
  ends_at = w.details.ends_at;
  kept_until = w.details.kept_until;
  created_by = w.details.created_by;
  comment = w.details.comment;
  matchers = w.details.matchers;
}

-- an item of it, with the next count
abbrev pub silence_item : Maker → Write → Item
silence_item maker w = record {
  stamp = record {
    moment = w.moment;
    instance = maker.instance;
    incarnation = maker.incarnation;
    count = maker.used + 1;
  };
  thing = thing.Silence (silence_of w);
}

-- items of silences, with one count after the other
unfoldable pub silence_items : Maker → List Write → List Item
silence_items maker [] = []
silence_items maker (w ∷ ws) = silence_item maker w ∷ silence_items (record maker { used = maker.used + 1 }) ws

-- ---- a post

-- a new silence, where none expires for it
abbrev pub is_one_more : Changed → Bool
is_one_more change = not (is_some change.expired) && not (is_some change.id)

-- how many silences have not expired once the change has come
abbrev pub count_with : ℕ → List Item → Changed → ℕ
count_with moment held change = unexpired moment held + (if is_one_more change then 1 else 0)

-- the change is stored; a new silence has this identifier
abbrev pub change_stored : Maker → Changed → List ℕ → Decision
change_stored maker change id = stored (silence_items maker (writes_of change id)) 200 (posted_text id)

-- .. where one was found among those that were drawn
abbrev pub new_stored : Maker → Changed → Option (List ℕ) → Decision
new_stored maker change None = refused 503 (codes "Q3")
new_stored maker change (Some id) = change_stored maker change id

-- a new silence needs words; one that is changed in its place doesn't
abbrev pub identified : List Item → Maker → ChaCha → Changed → Option (List ℕ) → Decision
identified held maker words change (Some id) = change_stored maker change id
identified held maker words change None =
    record (new_stored maker change (new_id (words_in words) words.word_pos held)) {
      drawn = Some (place_drawn (words_in words) words.word_pos held);
    }

-- a change is stored, unless more silences would then not have expired than the limit says
abbrev pub change_within : ℕ → List Item → ℕ → Maker → ChaCha → Changed → Decision
change_within limit held moment maker words change =
    if nat_lt limit (count_with moment held change) then refused 429 (codes "Li2")
    else identified held maker words change change.id

abbrev pub changed_or_refused : ℕ → List Item → ℕ → Maker → ChaCha → Result Changed SilenceRefusal → Decision
changed_or_refused limit held moment maker words (Ok change) = change_within limit held moment maker words change
changed_or_refused limit held moment maker words (Err reason) = refused_for reason

-- what a posted silence changes, where it may name one by its text
unfoldable pub change_by : List Item → ℕ → silences.Posted → Result Changed SilenceRefusal
change_by held moment posted = id_given posted.id >>= λ id. changed held id moment posted

abbrev pub posted_or_refused : ℕ → List Item → ℕ → Maker → ChaCha → Result silences.Posted SilenceRefusal → Decision
posted_or_refused limit held moment maker words (Ok posted) =
    changed_or_refused limit held moment maker words (change_by held moment posted)
posted_or_refused limit held moment maker words (Err reason) = refused_for reason

-- a body within the limit is judged
abbrev pub silence_posted : Limits → List Item → ℕ → Maker → ChaCha → List ℕ → Decision
silence_posted limits held moment maker words body =
    if nat_lt limits.silence (length body) then refused 400 (codes "Li4")
    else posted_or_refused limits.silences held moment maker words (silences.posted moment body)

-- ---- reads, and a deletion

-- the silences that have all matchers of the filters
abbrev pub silences_or_refused : List Item → ℕ → Result (List MatcherText) QueryRefusal → Decision
silences_or_refused held moment (Ok wanted) = replied 200 (silences_text moment (having wanted held))
silences_or_refused held moment (Err reason) = refused (queries.status_of reason) (queries.code_of reason)

abbrev pub read_or_unknown : ℕ → Option SilenceValue → Decision
read_or_unknown moment None = refused_for Unknown
read_or_unknown moment (Some silence) = replied 200 (silence_text moment silence)

abbrev pub expiry_or_refused : Maker → Result Write SilenceRefusal → Decision
expiry_or_refused maker (Ok w) = stored (silence_items maker (w ∷ [])) 200 []
expiry_or_refused maker (Err reason) = refused_for reason

-- .. of the silence that has this identifier
abbrev pub deleted_or_unknown : List Item → ℕ → Maker → Option (List ℕ) → Decision
deleted_or_unknown held moment maker None = refused_for Unknown
deleted_or_unknown held moment maker (Some id) = expiry_or_refused maker (deleted held id moment)

-- ---- by methods

-- GET lists the silences, by the filters of its query; POST stores that of its body, or its change. (The front lets no
-- other method through.)
abbrev pub silences_decided : Request → Method → List Item → Limits → ℕ → Maker → ChaCha → Decision
silences_decided request Get held limits moment maker words =
    silences_or_refused held moment (queries.filters_in request.query)
silences_decided request Post held limits moment maker words =
    silence_posted limits held moment maker words request.body
silences_decided request Delete held limits moment maker words = refused 405 (codes "H6")

-- GET reads the silence that the text identifies; DELETE lets it expire. (The front lets no other method through.)
abbrev pub silence_decided : List ℕ → Method → List Item → ℕ → Maker → Decision
silence_decided text Get held moment maker = read_or_unknown moment (silence_named text held)
silence_decided text Post held moment maker = refused 405 (codes "H6")
silence_decided text Delete held moment maker = deleted_or_unknown held moment maker (id_in text)
