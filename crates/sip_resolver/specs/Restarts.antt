-- What is left after requests began their choices anew.
use Rattle.std.specs.Prelude.{false, [], ◌++◌, map}
use Rattle.sip_selection.specs.Selections.{begun}
use Rattle.sip_resolver.specs.Requests.{RequestsView, requests_of}
use Rattle.sip_resolver.specs.Tasks.{TaskView, WaitingView}

-- the same request, which was given no answer and whose question goes over a datagram first
abbrev pub anew : TaskView → TaskView
anew task = record {
  number = task.number;
  selection = begun task.selection.request task.selection.caps task.selection.words;
  cut = false;
  until = task.until;
}

-- a request that waits, without what it waits for
abbrev pub task_of_waiting : WaitingView → TaskView
task_of_waiting waiting = waiting.task

-- Each request that has not ended can go on and was given no answer: first those that could go on,
-- then those that were held, then those that waited, each in its order. Those that ended are as
-- they were.
abbrev pub restarted : RequestsView → RequestsView
restarted it = requests_of
    (map anew (it.ready ++ it.held ++ map task_of_waiting it.waiting))
    [] [] it.ended it.limit
