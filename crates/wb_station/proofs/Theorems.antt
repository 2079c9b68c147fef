-- What holds of every history of a station.
use Rattle.sqlite.specs.Store.{Ghosts}
use Rattle.wb_station.specs.CourseOfHistory.{HasCourse, KeptForGood, SameAgain}
use Rattle.wb_station.specs.Laws.{OneHistory, RepliesAlone}
use Rattle.wb_station.specs.RunOfEvents.{RunsLead}
use Rattle.wb_station.proofs.Courses.{has_course, kept_for_good, same_again}
use Rattle.wb_station.proofs.OneHistory.{one_history, replies_alone}
use Rattle.wb_station.proofs.offered.Runs.{runs_lead}

-- A history has one account, and at each event one output.
pub law_of_one_history : OneHistory
law_of_one_history = one_history

-- The terminal's replies are those of the readings, bytes and hang-ups alone: requests to the office change none.
pub law_of_replies_alone : RepliesAlone
law_of_replies_alone = replies_alone

-- Events that are taken one after the other lead where their history does, as a whole and from each place on. After a fault of the disk each later
-- request that asks the store is answered 503.
pub law_of_runs : {D : Type 0} (g : Ghosts D) → RunsLead g
law_of_runs g = runs_lead g

-- The requests of a history are a course of the office, so that the office's laws on every course hold of every history: a key is accepted at most
-- once, numbers run, places stay within the capacity.
pub law_of_courses : HasCourse
law_of_courses = has_course

-- A request that was answered with an entry, its own or one that it repeated, is answered so whenever it is made again, and so is the ticket of its
-- number, whatever came between; or its entry was purged, and it is refused as gone.
pub law_of_same_again : SameAgain
law_of_same_again = same_again

-- An entry that was added or repeated is stored in every later account, or its key is spent.
pub law_of_kept_entries : KeptForGood
law_of_kept_entries = kept_for_good
