use Rattle.trace_text.proofs.PlainLines.{plain_answer_line, plain_entry_line, plain_halt_line, plain_head_line, plain_packet_line, plain_step_line, plain_write_line}
use Rattle.trace_text.proofs.laws.a_step_line_has_no_line_feed.Goals as goal

pub returns : goal.returns
returns c = record { step = plain_step_line; write = plain_write_line; entry_text = plain_entry_line; send = plain_packet_line; answer = plain_answer_line; head = plain_head_line; halt = plain_halt_line }
