use Rattle.law_rows.proofs.CreateFileSent.{delivery0, delivery1, delivery2, resend0, resend1, resend2}
use Rattle.law_rows.proofs.CreateFileSteps.{answer0, answer1, answer2, disk0, disk1, disk2, entries0, entries1, entries2, event0, event1, event2, held0, held1, held2, purge0, purge1, purge2, release0, release1, release2, service0, service1, service2, used0, used1, used2}
use Rattle.law_rows.proofs.rows.a_file_is_created.Goals as goal

pub returns : goal.returns
returns c = λ s homes spelled. (
  (
    (
      record {},
      record { event = event0 s homes; delivery = delivery0 s homes; resend = resend0 s homes; used = used0 s homes; answer = answer0 s homes; release = release0 s homes; service = service0 s homes; entries = entries0 s homes; purge = purge0 s homes; disk = disk0 s homes; held = held0 s homes },
    ),
    record { event = event1 s homes; delivery = delivery1 s homes; resend = resend1 s homes; used = used1 s homes; answer = answer1 s homes; release = release1 s homes; service = service1 s homes spelled; entries = entries1 s homes; purge = purge1 s homes; disk = disk1 s homes; held = held1 s homes },
  ),
  record { event = event2 s homes; delivery = delivery2 s homes; resend = resend2 s homes; used = used2 s homes; answer = answer2 s homes; release = release2 s homes; service = service2 s homes; entries = entries2 s homes; purge = purge2 s homes; disk = disk2 s homes; held = held2 s homes },
)
