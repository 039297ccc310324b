use Rattle.wire_print.proofs.HasFloat.{reply_has_none}
use Rattle.wire_print.proofs.PrintedText.{on_ok}
use Rattle.wire_print.proofs.ReplyOfLine.{reply_back}
use Rattle.wire_print.proofs.replies.print_reply.Goals as goal

pub print_value-requires : goal.print_value-requires
print_value-requires c = rw c.in_ok-value.ensures.value (reply_has_none c.args.reply.now)

pub returns-clause-reads_back : goal.returns-clause-reads_back
returns-clause-reads_back c = on_ok c.print_value.result _ (reply_back c.args.reply.now c.in_ok-value.ensures.spelled)
