use Rattle.wire_print.proofs.HasFloat.{request_has_none}
use Rattle.wire_print.proofs.PrintedText.{on_ok}
use Rattle.wire_print.proofs.RequestOfLine.{request_back}
use Rattle.wire_print.proofs.requests.print_request.Goals as goal

pub print_value-requires : goal.print_value-requires
print_value-requires c = rw c.in_ok-value.ensures.value (request_has_none c.args.request.now)

pub returns-clause-reads_back : goal.returns-clause-reads_back
returns-clause-reads_back c = on_ok c.print_value.result _ (request_back c.args.request.now c.in_ok-value.ensures.spelled)
