-- How a boot ends.
use Rattle.std.proofs.Common.{◌≡◌, [], ℕ, List, Option, None, Result, Ok, Err, filter, sym, ap, subst, ◌∙◌}
use Rattle.std.specs.Prelude.{IsErrAnd}
use Rattle.cal_base.specs.declared.identity.ServerId.{ServerId}
use Rattle.cal_base.specs.declared.identity.View.{View}
use Rattle.client_sessions.specs.Mail.{Mail, after_taking}
use Rattle.cluster_law.specs.Noted.{DiskAt}
use Rattle.cluster_law.specs.ServerState.{is_present, listing_all}
use Rattle.cluster_law.specs.declared.node.ServerHalted.{ServerHalted}
use Rattle.cluster_law.specs.declared.node.ServerOutput.{ServerOutput}
use Rattle.rebuild.specs.Collecting.{Collecting, next_of}
use Rattle.server_desk.specs.Desk.{DeskValue}
use Rattle.shared_disk.specs.Disk.{Disk}
use Rattle.shared_disk.specs.declared.stop.Stop.{Stop}
use Rattle.token_table.specs.Blockers.{clients_below}
use Rattle.volume.specs.Volume.{Volume}
use Rattle.server_start.specs.Asks.{mail_asking}
use Rattle.server_start.specs.Boots.{BootEnds, HasBooted, Serves, was_asked}
use Rattle.server_start.specs.Disks.{IsAt, StandsSo}
use Rattle.server_start.specs.Formats.{new_desk}
use Rattle.server_start.specs.Opening.{IsOpen, IsReplayed}
use Rattle.server_start.specs.Turns.{IsAsking}
use Rattle.server_start.specs.declared.opening.Opened.{Opened}
use Rattle.server_start.specs.declared.started.Started.{Started}
use Rattle.server_start.specs.declared.stops.StepError.{StepError}
use Rattle.server_start.specs.declared.stops.StepError.TheVariants.{OutOfMemory, Halted}
use Rattle.server_start.proofs.Turning.{asks-all, asks-nobody, mounts-first}

-- room on a disk is nothing that the law sees
pub roomy-at : (d d1 : Disk) (f f1 : ℕ) (before : DiskAt) → d1 ≡ record d { room = d1.room } → f1 ≡ f → IsAt d f before → IsAt d1 f1 before
roomy-at d d1 f f1 before same faults is = record {
  sectors = ap (λ (x : Disk). x.sectors) same ∙ is.sectors;
  key = is.key ∙ sym (ap (λ (x : Disk). x.key) same);
  faults_are = is.faults_are ∙ sym faults;
}

-- memory ran out
pub ends-early : (id : ServerId) (view : View) (window : ℕ) (stop : Option Stop) (before : DiskAt) (r : Result (Started × ServerOutput) StepError) (d : Disk) (f : ℕ) → IsErrAnd r (λ e. e ≡ OutOfMemory) → IsAt d f before
    → StandsSo d f (BootEnds id view window stop before r)
ends-early id view window stop before (Ok served) d f is at = absurd is
ends-early id view window stop before (Err e) d f is at =
    subst (λ (x : StepError). StandsSo d f (BootEnds id view window stop before (Err x))) (sym is) (record { at = before; is_at = at; holds = tt })

-- a halt is no want of memory, nor is a boot that serves
pub halt-apart : (P : Type 0) (halted : ServerHalted) → ◌≡◌ {A = Result (Started × ServerOutput) StepError} (Err (Halted halted)) (Err OutOfMemory) → P
halt-apart P halted e = absurd (cc)

pub served-apart : (P : Type 0) (served : Started × ServerOutput) → ◌≡◌ {A = Result (Started × ServerOutput) StepError} (Ok served) (Err OutOfMemory) → P
served-apart P served e = absurd (cc)

-- a boot serves, once its disk is open
pub serves : (id : ServerId) (view : View) (window : ℕ) (stop : Option Stop) (before : DiskAt) (opened : Opened) (started : Started) (output : ServerOutput) (desk listed : DeskValue) (mail : Mail) (d : Disk) (f : ℕ)
    → StandsSo d f (IsOpen view.0 stop before opened started.image) → started.port ≡ opened.port → output.writes ≡ opened.writes
    → desk ≡ new_desk window → listed ≡ record desk { collecting = listing_all desk.collecting (filter (is_present started.image) (clients_below started.image.clients)) }
    → next_of started.desk.collecting ≡ None → ((v w : ℕ) (own : List (List ℕ)) (volume : Volume) → IsAsking v w own listed volume → IsAsking v w own started.desk volume)
    → mail ≡ mail_asking id view (was_asked started.desk) → started.mail ≡ after_taking mail → output.sent ≡ mail.sent → output.entries ≡ [] → output.head ≡ None
    → StandsSo d f (Serves id view window stop before started output)
serves id view window stop before opened started output desk listed mail d f there port writes new lists none asks mails taken sent entries head =
    let read = there.holds.read in
    let own = read.mounted.own in
    let all = asks-all view.0 window own started.image started.desk none (asks view.0 window own started.image (asks-nobody view.0 window own started.image desk listed new lists)) in
    record {
      at = there.at;
      is_at = there.is_at;
      holds = record {
        port = ap (λ p. p.view) port ∙ there.holds.port;
        read = record {
          replays = subst (λ (ws : List (ℕ × List ℕ)). IsReplayed view.0 stop before ws None there.at) (sym writes) read.replays;
          mounted = read.mounted;
        };
        asks_well = all;
        mounts = mounts-first view.0 own started.image all.asked read.mounted.spells read.mounted.is_volume;
        mail = taken ∙ ap after_taking mails;
        sent = sent ∙ ap (λ (m : Mail). m.sent) mails;
        entries = entries;
        head = head;
      };
    }

-- and what it has then, whatever its disk tells
pub begins : (id : ServerId) (view : View) (started : Started) (window : ℕ) (desk listed : DeskValue) (mail : Mail) (listings : Collecting)
    → started.port.view ≡ view.0 → desk ≡ new_desk window → listed ≡ record desk { collecting = listings } → started.desk.requests ≡ listed.requests
    → mail ≡ mail_asking id view (was_asked started.desk) → started.mail ≡ after_taking mail → HasBooted id view started
begins id view started window desk listed mail listings port new lists same mails taken = record {
  port = port;
  unwanted = same ∙ ap (λ (d : DeskValue). d.requests) lists ∙ ap (λ (d : DeskValue). d.requests) new;
  mail = taken ∙ ap after_taking mails;
}
