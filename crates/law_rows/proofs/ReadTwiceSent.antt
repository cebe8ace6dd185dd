-- What goes on the lanes in each step.
use Rattle.std.proofs.Common.{◌≡◌, ◌++◌, inr, refl, rules, [], ◌∷◌, true, false, List, IsTrue, Bool, ℕ, nat_eq, arith}
use Rattle.cluster_law.specs.Delivery.{KeepsDelivery, KeepsResend, again, bare, fresh, sent_on, speaks_way}
use Rattle.cluster_law.specs.Lanes.{Down, Lane, Up, Way}
use Rattle.cluster_law.specs.Noted.{Noted}
use Rattle.cluster_law.specs.Sessions.{acked_in, client_view, heard, heard_in, made_in, sent_in, taken, taken_in, told_in}
use Rattle.cluster_law.specs.Trace.{own_sectors, packets, seat, sectors_at, server_of, views}
use Rattle.law_rows.proofs.Lanes.{not-so, of-client, of-first, of-server}
use Rattle.law_rows.specs.Formatted.{Sectors, setting}
use Rattle.law_rows.specs.Packets.{down, up}
use Rattle.law_rows.specs.ReadTwice.{answers, answers_again, grants, starts}

-- on each lane on which the step's node speaks go the packets that the rule names
abbrev Sends : Sectors → Noted → List Noted → Lane → Type 0
Sends s step earlier lane = sent_on lane step ≡ again (setting 1 s) lane step earlier ++ fresh (setting 1 s) lane step earlier ++ bare (setting 1 s) lane step earlier

abbrev as_lane : Way → ℕ → ℕ → Lane
as_lane way c v = record { client = c; view = v; way = way }

by0 : (s : Sectors) (c v : ℕ) (way : Way) → IsTrue (speaks_way way [] (starts s) (as_lane way c v)) → Sends s (starts s) [] (as_lane way c v)
unfolding acked_in client_view heard heard_in made_in packets seat sectors_at own_sectors sent_in server_of taken taken_in told_in views
by0 s c v Up speaking = of-client (λ c v. Sends s (starts s) [] (as_lane Up c v)) (λ c. client_view c (starts s ∷ [])) c v speaking refl refl
by0 s c v Down speaking = absurd (not-so speaking)

none0 : (s : Sectors) (c v : ℕ) (way : Way) (a b : Bool) → nat_eq 0 c ≡ a → nat_eq 1 v ≡ b → again (setting 1 s) (as_lane way c v) (starts s) [] ≡ []
unfolding acked_in client_view heard heard_in made_in packets seat sectors_at own_sectors sent_in server_of taken taken_in told_in views
none0 s c v Up true true ea eb = rw ea (rw eb refl)
none0 s c v Up true false ea eb = rw ea (rw eb refl)
none0 s c v Up false b ea eb = rw ea refl
none0 s c v Down true true ea eb = rw ea (rw eb refl)
none0 s c v Down true false ea eb = rw ea (rw eb refl)
none0 s c v Down false b ea eb = rw ea refl

pub delivery0 : (s : Sectors) → KeepsDelivery (setting 1 s) (starts s) []
unfolding acked_in client_view heard heard_in made_in packets seat sectors_at own_sectors sent_in server_of taken taken_in told_in views
delivery0 s = record {
  delivered = record {};
  told = inr ((search rules, search rules, ((omega arith, omega arith), search rules)), record {});
  sent = λ lane speaking runs. by0 s lane.client lane.view lane.way speaking;
  no_other = (record { lane = up; goes = search rules; speaks_there = search rules }, record {});
  halted = λ e. absurd (not-so e);
  no_repeat = λ lane e. none0 s lane.client lane.view lane.way (nat_eq 0 lane.client) (nat_eq 1 lane.view) refl refl;
}

by1 : (s : Sectors) (c v : ℕ) (way : Way) → IsTrue (speaks_way way (starts s ∷ []) (grants s) (as_lane way c v)) → Sends s (grants s) (starts s ∷ []) (as_lane way c v)
unfolding acked_in client_view heard heard_in made_in packets seat sectors_at own_sectors sent_in server_of taken taken_in told_in views
by1 s c v Up speaking = absurd (not-so speaking)
by1 s c v Down speaking = of-server (λ v. Sends s (grants s) (starts s ∷ []) (as_lane Down c v)) v speaking (of-first (λ c. Sends s (grants s) (starts s ∷ []) (as_lane Down c 1)) c refl (λ e. rw e refl))

none1 : (s : Sectors) (c v : ℕ) (way : Way) (a b : Bool) → nat_eq 0 c ≡ a → nat_eq 1 v ≡ b → again (setting 1 s) (as_lane way c v) (grants s) (starts s ∷ []) ≡ []
unfolding acked_in client_view heard heard_in made_in packets seat sectors_at own_sectors sent_in server_of taken taken_in told_in views
none1 s c v Up true true ea eb = rw ea (rw eb refl)
none1 s c v Up true false ea eb = rw ea (rw eb refl)
none1 s c v Up false b ea eb = rw ea refl
none1 s c v Down true true ea eb = rw ea (rw eb refl)
none1 s c v Down true false ea eb = rw ea (rw eb refl)
none1 s c v Down false b ea eb = rw ea refl

pub delivery1 : (s : Sectors) → KeepsDelivery (setting 1 s) (grants s) (starts s ∷ [])
unfolding acked_in client_view heard heard_in made_in packets seat sectors_at own_sectors sent_in server_of taken taken_in told_in views
delivery1 s = record {
  delivered = refl;
  told = inr ((search rules, search rules, search rules), record {});
  sent = λ lane speaking runs. by1 s lane.client lane.view lane.way speaking;
  no_other = (record { lane = down; goes = search rules; speaks_there = search rules }, record {});
  halted = λ e. absurd (not-so e);
  no_repeat = λ lane e. none1 s lane.client lane.view lane.way (nat_eq 0 lane.client) (nat_eq 1 lane.view) refl refl;
}

by2 : (s : Sectors) (c v : ℕ) (way : Way) → IsTrue (speaks_way way (grants s ∷ starts s ∷ []) (answers s) (as_lane way c v)) → Sends s (answers s) (grants s ∷ starts s ∷ []) (as_lane way c v)
unfolding acked_in client_view heard heard_in made_in packets seat sectors_at own_sectors sent_in server_of taken taken_in told_in views
by2 s c v Up speaking = of-client (λ c v. Sends s (answers s) (grants s ∷ starts s ∷ []) (as_lane Up c v)) (λ c. client_view c (answers s ∷ (grants s ∷ starts s ∷ []))) c v speaking refl refl
by2 s c v Down speaking = absurd (not-so speaking)

none2 : (s : Sectors) (c v : ℕ) (way : Way) (a b : Bool) → nat_eq 0 c ≡ a → nat_eq 1 v ≡ b → again (setting 1 s) (as_lane way c v) (answers s) (grants s ∷ starts s ∷ []) ≡ []
unfolding acked_in client_view heard heard_in made_in packets seat sectors_at own_sectors sent_in server_of taken taken_in told_in views
none2 s c v Up true true ea eb = rw ea (rw eb refl)
none2 s c v Up true false ea eb = rw ea (rw eb refl)
none2 s c v Up false b ea eb = rw ea refl
none2 s c v Down true true ea eb = rw ea (rw eb refl)
none2 s c v Down true false ea eb = rw ea (rw eb refl)
none2 s c v Down false b ea eb = rw ea refl

pub delivery2 : (s : Sectors) → KeepsDelivery (setting 1 s) (answers s) (grants s ∷ starts s ∷ [])
unfolding acked_in client_view heard heard_in made_in packets seat sectors_at own_sectors sent_in server_of taken taken_in told_in views
delivery2 s = record {
  delivered = refl;
  told = inr (record {});
  sent = λ lane speaking runs. by2 s lane.client lane.view lane.way speaking;
  no_other = (record { lane = up; goes = search rules; speaks_there = search rules }, record {});
  halted = λ e. absurd (not-so e);
  no_repeat = λ lane e. none2 s lane.client lane.view lane.way (nat_eq 0 lane.client) (nat_eq 1 lane.view) refl refl;
}

by3 : (s : Sectors) (c v : ℕ) (way : Way) → IsTrue (speaks_way way (answers s ∷ grants s ∷ starts s ∷ []) (answers_again s) (as_lane way c v)) → Sends s (answers_again s) (answers s ∷ grants s ∷ starts s ∷ []) (as_lane way c v)
unfolding acked_in client_view heard heard_in made_in packets seat sectors_at own_sectors sent_in server_of taken taken_in told_in views
by3 s c v Up speaking = of-client (λ c v. Sends s (answers_again s) (answers s ∷ grants s ∷ starts s ∷ []) (as_lane Up c v)) (λ c. client_view c (answers_again s ∷ (answers s ∷ grants s ∷ starts s ∷ []))) c v speaking refl refl
by3 s c v Down speaking = absurd (not-so speaking)

none3 : (s : Sectors) (c v : ℕ) (way : Way) (a b : Bool) → nat_eq 0 c ≡ a → nat_eq 1 v ≡ b → again (setting 1 s) (as_lane way c v) (answers_again s) (answers s ∷ grants s ∷ starts s ∷ []) ≡ []
unfolding acked_in client_view heard heard_in made_in packets seat sectors_at own_sectors sent_in server_of taken taken_in told_in views
none3 s c v Up a b ea eb = refl
none3 s c v Down a b ea eb = refl

pub delivery3 : (s : Sectors) → KeepsDelivery (setting 1 s) (answers_again s) (answers s ∷ grants s ∷ starts s ∷ [])
unfolding acked_in client_view heard heard_in made_in packets seat sectors_at own_sectors sent_in server_of taken taken_in told_in views
delivery3 s = record {
  delivered = record {};
  told = inr (record {});
  sent = λ lane speaking runs. by3 s lane.client lane.view lane.way speaking;
  no_other = record {};
  halted = λ e. absurd (not-so e);
  no_repeat = λ lane e. none3 s lane.client lane.view lane.way (nat_eq 0 lane.client) (nat_eq 1 lane.view) refl refl;
}

pub resend0 : (s : Sectors) → KeepsResend (setting 1 s) (starts s) []
resend0 s = record { resent = λ lane tick speaking runs. absurd (not-so tick); quiet = λ tick clients. absurd (not-so tick) }

pub resend1 : (s : Sectors) → KeepsResend (setting 1 s) (grants s) (starts s ∷ [])
resend1 s = record { resent = λ lane tick speaking runs. absurd (not-so tick); quiet = λ tick clients. absurd (not-so tick) }

pub resend2 : (s : Sectors) → KeepsResend (setting 1 s) (answers s) (grants s ∷ starts s ∷ [])
resend2 s = record { resent = λ lane tick speaking runs. absurd (not-so tick); quiet = λ tick clients. absurd (not-so tick) }

pub resend3 : (s : Sectors) → KeepsResend (setting 1 s) (answers_again s) (answers s ∷ grants s ∷ starts s ∷ [])
resend3 s = record { resent = λ lane tick speaking runs. absurd (not-so tick); quiet = λ tick clients. absurd (not-so tick) }
