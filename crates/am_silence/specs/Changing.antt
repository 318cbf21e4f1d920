-- What a posted silence changes among those that are held, and what a deletion does.
use Rattle.std.specs.Prelude.{ℕ, ◌+◌, ◌==◌, max, min, Bool, true, false, ◌&&◌, nat_le, nat_lt, List, [], ◌∷◌, ◌++◌, Option, Some, None, option_map, unwrap_or, Result, Ok, Err, if◌then◌else◌}
use Rattle.std.specs.Option.{option_to_list}
use Rattle.std.specs.Str.{bytes_eq}
use Rattle.am_text.specs.Moment.{greatest_moment}
use Rattle.am_text.specs.Outcome.{◌>>=◌}
use Rattle.am_match.specs.Matchers.{MatcherText}
use Rattle.am_match.specs.Spelling.{operator_number}
use Rattle.am_item.specs.declared.item.Item.{Item}
use Rattle.am_silence.specs.declared.change.Change.{Change}
use Rattle.am_silence.specs.declared.change.SilenceWrite.{SilenceWrite}
use Rattle.am_silence.specs.declared.refusal.SilenceRefusal.{SilenceRefusal}
use Rattle.am_silence.specs.declared.refusal.SilenceRefusal.TheVariants.{Unknown, Ended}
use Rattle.am_silence.specs.declared.state.SilenceState.{SilenceState}
use Rattle.am_silence.specs.declared.state.SilenceState.TheVariants.{Pending, Active, Expired}
use Rattle.am_silence.specs.Held.{SilenceValue, silence_at}
use Rattle.am_silence.specs.Posted.{Posted}
use Rattle.am_silence.specs.Silences.{Details, details_in, details_of, state_of}

-- a silence that is to be stored, and the moment of its stamp
pub record Write : Type 0 where
  pub moment : ℕ
  pub id : List ℕ
  pub details : Details

-- a change: the expiry of the old silence, where it brings one; then what is posted, with the moment of its stamp, in
-- the place of the old silence under its identifier, or under a new one where there is none
pub record Changed : Type 0 where
  pub expired : Option Write
  pub id : Option (List ℕ)
  pub moment : ℕ
  pub details : Details

-- the same of what was returned
abbrev pub write_of : SilenceWrite → Write
write_of w = record { moment = w.moment; id = w.silence.id; details = details_in w.silence }

abbrev pub changed_of : Change → Changed
changed_of c = record { expired = option_map write_of c.expired; id = c.id; moment = c.moment; details = details_of c.details }

-- ---- in the place of a silence

-- the moment, or one past the stamp's that was seen; no later than the greatest moment
abbrev pub stamped_after : (moment seen : ℕ) → ℕ
stamped_after moment seen = max moment (min (seen + 1) greatest_moment)

-- the old silence with other details: kept until the latest of its end, its stamp's moment and when the old one was kept
abbrev pub rewritten : ℕ → SilenceValue → Details → Write
rewritten moment old details =
    let at = stamped_after moment old.stamp.moment in
    record {
      moment = at;
      id = old.id;
      details = record details { kept_until = max (max details.ends_at at) old.details.kept_until };
    }

-- a silence that ends at the moment, and one that was to start later starts there too
abbrev pub ended : ℕ → Details → Details
ended moment s = record s { starts_at = if nat_lt moment s.starts_at then moment else s.starts_at; ends_at = moment }

-- the expiry of a silence: nothing of it is lost
abbrev pub expiry : ℕ → SilenceValue → Write
expiry moment old = rewritten moment old (ended moment old.details)

-- where it has not expired
abbrev pub expiry_by : SilenceState → ℕ → SilenceValue → Option Write
expiry_by Pending moment old = Some (expiry moment old)
expiry_by Active moment old = Some (expiry moment old)
expiry_by Expired moment old = None

-- ---- a post

-- two matchers are equal: in operator, name and value
abbrev pub same_matcher : MatcherText → MatcherText → Bool
same_matcher a b =
    operator_number a.operator == operator_number b.operator && bytes_eq a.name b.name && bytes_eq a.value b.value

-- two lists of them are equal, in their order
abbrev pub same_matchers : List MatcherText → List MatcherText → Bool
same_matchers [] [] = true
same_matchers [] (b ∷ bs) = false
same_matchers (a ∷ as') [] = false
same_matchers (a ∷ as') (b ∷ bs) = same_matcher a b && same_matchers as' bs

-- an active silence is changed in its place where the posted start is its own, a pending one where the posted start isn't
-- before the moment, an expired one never
abbrev pub may_stay : SilenceState → (moment old_start new_start : ℕ) → Bool
may_stay Active moment old_start new_start = new_start == old_start
may_stay Pending moment old_start new_start = nat_le moment new_start
may_stay Expired moment old_start new_start = false

-- and only where the matchers are equal
abbrev pub is_in_place : ℕ → Details → Posted → Bool
is_in_place moment old posted =
    same_matchers old.matchers posted.matchers
    && may_stay (state_of moment old) moment old.starts_at posted.starts_at

-- what is posted, from this start on, kept until then
abbrev pub details_posted : Posted → (start kept : ℕ) → Details
details_posted posted start kept = record {
  starts_at = start;
  ends_at = posted.ends_at;
  kept_until = kept;
  created_by = posted.created_by;
  comment = posted.comment;
  matchers = posted.matchers;
}

-- the old silence, changed in its place
abbrev pub in_place : ℕ → SilenceValue → Posted → Changed
in_place moment old posted =
    let write = rewritten moment old (details_posted posted posted.starts_at 0) in
    record { expired = None; id = Some old.id; moment = write.moment; details = write.details }

-- a new silence, which doesn't start before the moment
abbrev pub anew : ℕ → Option Write → Posted → Changed
anew moment expired posted = record {
  expired = expired;
  id = None;
  moment = moment;
  details = details_posted posted (max posted.starts_at moment) (max posted.ends_at moment);
}

-- what a posted silence changes, where it names this one
abbrev pub change_of : ℕ → SilenceValue → Posted → Changed
change_of moment old posted =
    if is_in_place moment old.details posted then in_place moment old posted
    else anew moment (expiry_by (state_of moment old.details) moment old) posted

-- or none
unfoldable pub change : ℕ → Option SilenceValue → Posted → Changed
change moment None posted = anew moment None posted
change moment (Some old) posted = change_of moment old posted

-- the silence that must be held
abbrev pub known : Option SilenceValue → Result SilenceValue SilenceRefusal
known None = Err Unknown
known (Some old) = Ok old

-- the one of an identifier, where one is given
abbrev pub known_at : List Item → Option (List ℕ) → Result (Option SilenceValue) SilenceRefusal
known_at held None = Ok None
known_at held (Some id) = known (silence_at id held) >>= λ old. Ok (Some old)

-- what a posted silence changes among those that are held, where this identifier is given
unfoldable pub changed : List Item → Option (List ℕ) → ℕ → Posted → Result Changed SilenceRefusal
changed held id moment posted = known_at held id >>= λ old. Ok (change moment old posted)

-- what is to be stored, in order: an expiry first; a new silence has this identifier
abbrev pub writes_of : Changed → List ℕ → List Write
writes_of c new_id =
    option_to_list c.expired ++ (record { moment = c.moment; id = unwrap_or c.id new_id; details = c.details }) ∷ []

-- ---- a deletion

abbrev pub or_ended : Option Write → Result Write SilenceRefusal
or_ended None = Err Ended
or_ended (Some write) = Ok write

-- a silence that is deleted expires; one that has expired isn't deleted again
unfoldable pub deleted : List Item → List ℕ → ℕ → Result Write SilenceRefusal
deleted held id moment =
    known (silence_at id held) >>= λ old. or_ended (expiry_by (state_of moment old.details) moment old)
