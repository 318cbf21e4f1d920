-- Views, computed: the claims say something, and no more than is so.
use Rattle.std.specs.Prelude.{ℕ, List, [], ◌∷◌, ◌++◌}
use Rattle.am_stays.specs.Places.{Place, First, Second, Third}
use Rattle.am_stays.specs.Shadow.{Shadow, shadow_start, after_settle}
use Rattle.am_stays.specs.Happenings.{Happening, Asked, Got, Decided, Refused, Stored, Replied, Closed, Accepted}
use Rattle.am_stays.specs.Happenings.{Retired, Listed, Pieced, Settled, Learned, Turned, Joined, Left, Crashed}
use Rattle.am_stays.specs.Happenings.{Restarted, Stopped, shadow_run}

-- instances 1, 2 and 3 are the replicas, nobody holds anything, and 4 is down
abbrev pub members : Place → ℕ
members First = 1
members Second = 2
members Third = 3

abbrev pub after : List Happening → Shadow
after happened = shadow_run (Crashed 4 ∷ happened) (shadow_start members (λ j. 0))

-- request 1 is decided by 1 and 2, and makes write 7
abbrev pub decided : List Happening
decided = Asked 1 1 ∷ Got 1 1 ∷ Got 1 2 ∷ Decided 1 1 0 2 0 7 ∷ []

-- .. and that is acknowledged by both
abbrev pub acknowledged : List Happening
acknowledged = decided ++ Stored 7 1 ∷ Stored 7 2 ∷ Replied 7 1 2 ∷ []

-- 1 goes on to the next epoch, and sends its list to 4 in one piece; so does 3; then 4 settles
abbrev pub handed_on : List Happening
handed_on =
    Learned 1 ∷ Listed 1 4 1 0 ∷ Pieced 1 4 0 ∷ Learned 3 ∷ Listed 3 4 1 0 ∷ Pieced 3 4 0 ∷ Settled 4 ∷ []

-- 7 is acknowledged by 1 and 2. Then 4 joins and gets 2's place, 1 crashes, and request 2 is answered by 4, which has 7
-- from 1's list, and by 3, which never had it.
abbrev pub moved : List Happening
moved =
    acknowledged ++ Joined 4 Second ∷ handed_on
    ++ Crashed 1 ∷ Asked 2 3 ∷ Got 2 4 ∷ Got 2 3 ∷ []

-- 4 gets 2's place while 7 is open. 1 takes 7 before it learns that, 2 only after 4 has settled; then 7 is
-- acknowledged. Request 3, of the epoch before, is answered by 3, which went by that then and hasn't 7, and by 2,
-- which still does; and it is decided so, behind the acknowledgement. Its write 8 is taken by 2 alone, since 1 has
-- learned the next epoch.
abbrev pub late : List Happening
late =
    decided ++ Joined 4 Second ∷ Stored 7 1 ∷ Asked 3 3 ∷ Got 3 3 ∷ handed_on
    ++ Stored 7 2 ∷ Replied 7 1 2 ∷ Asked 2 2 ∷ Got 2 2 ∷ Got 3 2
    ∷ Decided 3 3 0 2 7 8 ∷ Stored 8 1 ∷ Stored 8 2 ∷ []

-- 4 gets 2's place, and none of the others has learned so. 7 is acknowledged by 1 and 3. Request 2 comes later, to 2,
-- and is decided in the first era: by the answer of 2, which never had 7, and by that of 3.
abbrev pub old_era : List Happening
old_era =
    decided ++ Joined 4 Second ∷ Stored 7 1 ∷ Stored 7 3 ∷ Replied 7 1 3
    ∷ Asked 2 2 ∷ Got 2 2 ∷ Got 2 3 ∷ Decided 2 2 0 3 7 8 ∷ []

-- 4 gets 2's place, 7 is acknowledged by 1 and 4, and 1 leaves. Two settled replicas lack 7: 3, and 2, which still
-- goes by the first era.
abbrev pub two_eras : List Happening
two_eras =
    Joined 4 Second ∷ handed_on
    ++ Asked 1 1 ∷ Got 1 1 ∷ Got 1 3 ∷ Decided 1 1 0 3 0 7 ∷ Stored 7 1 ∷ Stored 7 4 ∷ Replied 7 1 4 ∷ Left 5 First ∷ []

-- An epoch begins in which the three stay. 1 learns it, and takes no Put of the one before: 7 is acknowledged by 2
-- and 3. Request 2 is of the new epoch, so 2 doesn't answer it before it has learned that too; it has kept 7.
abbrev pub turned : List Happening
turned =
    decided ++ Turned ∷ Learned 1 ∷ Stored 7 1 ∷ Stored 7 2 ∷ Stored 7 3 ∷ Replied 7 2 3
    ∷ Asked 2 1 ∷ Got 2 1 ∷ Got 2 2 ∷ Learned 2 ∷ []

-- 7 is acknowledged by 1 and 2, and request 2 comes. All stop, and start again, 4 too: request 2 is over, and 3 takes
-- no Put from before. Request 3 is answered by 1, which has kept 7, and by 3.
abbrev pub stopped : List Happening
stopped =
    acknowledged ++ Asked 2 3 ∷ Stopped ∷ Got 2 1 ∷ Stored 7 3 ∷ Asked 3 3 ∷ Got 3 1 ∷ Got 3 3 ∷ Got 3 4 ∷ []

-- 7 is acknowledged by 1 and 2, and both drop it at its retirement. Request 2 is answered without it.
abbrev pub retired : List Happening
retired = acknowledged ++ Retired 1 ∷ Retired 2 ∷ Asked 2 3 ∷ Got 2 1 ∷ Got 2 3 ∷ []

-- 7 is acknowledged by 1 and 2. 1 takes 8 and 3 takes 9, which no operation sent them; 4 comes up, and takes nothing,
-- since it is none of the three. Request 2 is answered with 8 and 9.
abbrev pub accepted : List Happening
accepted =
    acknowledged ++ Accepted 1 8 ∷ Accepted 3 9 ∷ Restarted 4 ∷ Accepted 4 9 ∷ Asked 2 3 ∷ Got 2 1 ∷ Got 2 3 ∷ []

-- Request 1 is refused, and its answers decide nothing. Request 2 makes write 8, which ends before its two Acks count.
abbrev pub ended : List Happening
ended =
    Asked 1 1 ∷ Got 1 1 ∷ Got 1 2 ∷ Refused 1 ∷ Decided 1 1 0 2 0 7
    ∷ Asked 2 1 ∷ Got 2 1 ∷ Got 2 2 ∷ Decided 2 1 0 2 0 8 ∷ Stored 8 1 ∷ Stored 8 2 ∷ Closed 8 ∷ Replied 8 1 2 ∷ []

-- No calm view: 7 is acknowledged by 1 and 2, 1 crashes and is restarted, and then it is settled by force. It and 3
-- lack 7.
abbrev pub forced : Shadow
forced = after_settle (after (acknowledged ++ Crashed 1 ∷ Restarted 1 ∷ [])) 1
