use Rattle.law_rows.proofs.ReadTwiceSent.{delivery0, delivery1, delivery2, delivery3, resend0, resend1, resend2, resend3}
use Rattle.law_rows.proofs.ReadTwiceSteps.{answer0, answer1, answer2, answer3, disk0, disk1, disk2, disk3, entries0, entries1, entries2, entries3, event0, event1, event2, event3, held0, held1, held2, held3, purge0, purge1, purge2, purge3, release0, release1, release2, release3, service0, service1, service2, service3, used0, used1, used2, used3}
use Rattle.law_rows.proofs.rows.a_directory_is_read_twice.Goals as goal

pub returns : goal.returns
returns c = λ s. (
  (
    (
      (
        record {},
        record { event = event0 s; delivery = delivery0 s; resend = resend0 s; used = used0 s; answer = answer0 s; release = release0 s; service = service0 s; entries = entries0 s; purge = purge0 s; disk = disk0 s; held = held0 s },
      ),
      record { event = event1 s; delivery = delivery1 s; resend = resend1 s; used = used1 s; answer = answer1 s; release = release1 s; service = service1 s; entries = entries1 s; purge = purge1 s; disk = disk1 s; held = held1 s },
    ),
    record { event = event2 s; delivery = delivery2 s; resend = resend2 s; used = used2 s; answer = answer2 s; release = release2 s; service = service2 s; entries = entries2 s; purge = purge2 s; disk = disk2 s; held = held2 s },
  ),
  record { event = event3 s; delivery = delivery3 s; resend = resend3 s; used = used3 s; answer = answer3 s; release = release3 s; service = service3 s; entries = entries3 s; purge = purge3 s; disk = disk3 s; held = held3 s },
)
