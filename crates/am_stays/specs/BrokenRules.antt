-- Views in which one rule is broken once: each rule is needed, since a claim fails in each of them.
use Rattle.std.specs.Prelude.{List, [], ◌∷◌, ◌++◌, ◌==◌, if◌then◌else◌}
use Rattle.am_stays.specs.Places.{First, Second}
use Rattle.am_stays.specs.Shadow.{Shadow, after_get, after_write, after_put, after_reply, after_cut, after_settle}
use Rattle.am_stays.specs.Shadow.{after_join, after_rise}
use Rattle.am_stays.specs.Happenings.{Happening, Asked, Got, Decided, Stored, Replied, Listed, Pieced, Settled, Learned}
use Rattle.am_stays.specs.Happenings.{Joined, Crashed, Restarted, shadow_run}
use Rattle.am_stays.specs.Examples.{acknowledged, after, decided, handed_on}

-- what comes of a view, of what its rules forbid then, and of what happens later
abbrev pub broken : List Happening → (Shadow → Shadow) → List Happening → Shadow
broken before breach later = shadow_run later (breach (after before))

-- One Answer decides: 4 got 2's place, 1 alone has learned so and answers, and 7 is acknowledged by 1 and 4. 2 and 3,
-- still of the first era, lack it.
abbrev pub one_answer : Shadow
one_answer =
    broken (Joined 4 Second ∷ Learned 1 ∷ Asked 1 1 ∷ Got 1 1 ∷ []) (λ s. after_write s 1 7)
    (Stored 7 1 ∷ Stored 7 4 ∷ Replied 7 1 4 ∷ [])

-- One Ack acknowledges: 2 and 3 lack 7.
abbrev pub one_ack : Shadow
one_ack = broken (decided ++ Stored 7 1 ∷ []) (λ s. after_reply s 7) []

-- A Put of an earlier epoch is taken: 4 got 2's place and settled, then 1 takes 7, and so does 2, which still goes by
-- the first era. 3 and 4 lack it.
abbrev pub late_put : Shadow
late_put = broken (decided ++ Joined 4 Second ∷ handed_on) (λ s. after_put s 7 1) (Stored 7 2 ∷ Replied 7 1 2 ∷ [])

-- A Get of an earlier epoch is answered: 4 got 2's place and settled, and 7 is acknowledged by 1 and 4. Request 2 is
-- of the first era, by which 2 still goes; 3 answers it too. Both lack 7.
abbrev pub late_get : Shadow
late_get =
    broken
    (Joined 4 Second ∷ handed_on
    ++ Asked 1 1 ∷ Got 1 1 ∷ Got 1 3 ∷ Decided 1 1 0 3 0 7 ∷ Stored 7 1 ∷ Stored 7 4 ∷ Replied 7 1 4
    ∷ Asked 2 2 ∷ Got 2 2 ∷ [])
    (λ s. after_get s 2 3) []

-- A replica answers that isn't settled: 1 lost 7 in a crash, and 3 never had it.
abbrev pub unsettled_answer : Shadow
unsettled_answer =
    broken (acknowledged ++ Crashed 1 ∷ Restarted 1 ∷ Asked 2 3 ∷ Got 2 3 ∷ []) (λ s. after_get s 2 1) []

-- .. or 4, which got 2's place: with 1 it answered in an epoch that 2 and 3 don't know.
abbrev pub newcomer_answer : Shadow
newcomer_answer = broken (Joined 4 Second ∷ Learned 1 ∷ Asked 1 1 ∷ Got 1 1 ∷ []) (λ s. after_get s 1 4) []

-- A restart refuses no open write: 1 loses 7 in a crash, and settles again; then 2 takes it, and the Ack of 1 counts
-- with its own. 1 and 3 lack it.
abbrev pub restart_refuses_nothing : Shadow
restart_refuses_nothing =
    broken (decided ++ Stored 7 1 ∷ Crashed 1 ∷ []) (λ s. after_rise s 1 s.present)
    (Listed 2 1 1 0 ∷ Pieced 2 1 0 ∷ Listed 3 1 1 0 ∷ Pieced 3 1 0 ∷ Settled 1 ∷ Stored 7 2 ∷ Replied 7 1 2 ∷ [])

-- A replica settles after one list: 1 lost 7 in a crash, and has the list of 3 alone. Both lack it.
abbrev pub one_list : Shadow
one_list =
    broken (acknowledged ++ Crashed 1 ∷ Restarted 1 ∷ Listed 3 1 1 0 ∷ Pieced 3 1 0 ∷ []) (λ s. after_settle s 1) []

-- .. or with a piece missing, that in which 7 is: of 2's list it has the first of two.
abbrev pub piece_missing : Shadow
piece_missing =
    broken
    (acknowledged ++ Crashed 1 ∷ Restarted 1 ∷ Listed 3 1 1 0 ∷ Pieced 3 1 0 ∷ Listed 2 1 2 1 ∷ Pieced 2 1 0 ∷ [])
    (λ s. after_settle s 1) []

-- A list is cut again: 3 has the first list of 1, and lacks what stands in the second.
abbrev pub second_list : Shadow
second_list = broken (Listed 1 3 1 0 ∷ Pieced 1 3 0 ∷ decided ++ Stored 7 1 ∷ []) (λ s. after_cut s 1 3 1 0) []

-- A place moves before the one that moved last is settled: the third era has begun, and 3, which kept its place,
-- still goes by the first.
abbrev pub two_moves : Shadow
two_moves = broken (Crashed 5 ∷ Joined 4 Second ∷ []) (λ s. after_join s 1 First 5 2) []

-- Who lost its place learns so, and keeps what it holds.
abbrev pub place_lost : Shadow
place_lost =
    broken (acknowledged ++ Joined 4 Second ∷ []) (λ s. record s { known = λ k. if k == 2 then 1 else s.known k }) []
