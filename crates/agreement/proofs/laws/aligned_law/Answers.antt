use Rattle.agreement.proofs.IsAligned.{aligned_agrees, serve_aligned, next_aligned, lane_aligned, local_aligned, take_aligned, after_aligned, differ_false}
use Rattle.log_model.specs.Answers.{author}
use Rattle.agreement.proofs.laws.aligned_law.Goals as goal

pub returns-clause-agrees : goal.returns-clause-agrees
returns-clause-agrees c = aligned_agrees

pub returns-clause-serve : goal.returns-clause-serve
returns-clause-serve c = serve_aligned

pub returns-clause-sent : goal.returns-clause-sent
returns-clause-sent c = next_aligned

pub returns-clause-served : goal.returns-clause-served
returns-clause-served c = lane_aligned

pub returns-clause-local : goal.returns-clause-local
returns-clause-local c = λ log s lane seat act local h. local_aligned log s lane seat act local h

pub returns-clause-take : goal.returns-clause-take
returns-clause-take c = take_aligned

pub returns-clause-guest : goal.returns-clause-guest
returns-clause-guest c = λ log s lane seat who num call h other. after_aligned log s seat who num call lane h (differ_false (author log who call) s.own other)
