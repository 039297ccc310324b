use Rattle.std.proofs.Common.{◌≡◌, ◌++◌, ◌+◌, ◌<◌, length, map, []}
use Rattle.std.specs.VecDeque.{deque_len, deque_capacity}
use Rattle.seat_lock.specs.Lists.{AllOf}
use Rattle.server_crew.specs.Workers.{all_taken}
use Rattle.server_crew.proofs.closing.gather.Given as goal

-- what was gathered, and what is still with the workers
abbrev pub invariant-loop-worker : goal.invariant-loop-worker
invariant-loop-worker g l = record {
  queue : (l.end.queue ≡ l.queue.table) × (0 < l.end.parts) × (l.end.parts + length l.workers.items ≡ l.initial.end.parts + length l.initial.workers.items);
  queues : AllOf (λ w. (w.end.queue ≡ l.queue.table) × (w.end.parts ≡ 1) × (w.end.put ≡ [])) l.workers.items;
  put : l.end.put ≡ l.initial.end.put;
  taken : l.end.taken ++ all_taken l.workers.items ≡ l.initial.end.taken ++ all_taken l.initial.workers.items;
  shifts : l.shifts.items ++ map (λ w. w.shift) l.workers.items ≡ l.initial.shifts.items ++ map (λ w. w.shift) l.initial.workers.items;
  room : (deque_len l.shifts + length l.workers.items ≡ deque_len l.initial.shifts + length l.initial.workers.items) × (deque_capacity l.shifts ≡ deque_capacity l.initial.shifts);
}

abbrev pub decreases-loop-worker : goal.decreases-loop-worker
decreases-loop-worker g l = deque_len l.workers
