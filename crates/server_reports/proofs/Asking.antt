-- Clients are asked one after the other.
use Rattle.std.proofs.Common.{◌≡◌, ◌≢◌, ◌<◌, ◌+◌, inl, inr, ℕ, Bool, true, false, if◌then◌else◌, Option, Some, None, is_some, nat_lt, cond, count_by, length, get_or, set, unwrap_or, slice_get, ap, refl, subst, sym, ◌∙◌, arith}
use Rattle.std.specs.List.{position, position_or_len}
use Rattle.std.specs.Option.{option_map}
use Rattle.std.proofs.lemmas.Bool.{cases_eq, false≢true}
use Rattle.std.proofs.lemmas.List.{get_or-set_same, get_or-set_other, length-set}
use Rattle.std.proofs.lemmas.List.Folds.{position_or_len-set}
use Rattle.std.proofs.lemmas.List.Quantifiers.{position-Some}
use Rattle.std.proofs.lemmas.List.Sums.{sum_by-set}
use Rattle.std.proofs.lemmas.Option.{unwrap_or-slice_get}
use Rattle.cal_base.specs.declared.identity.ClientId.{ClientId}
use Rattle.rebuild.specs.Collecting.{Collecting, asking, client, is_asked, is_missing, is_to_ask, missing_of, next_of, standing_of}
use Rattle.rebuild.specs.declared.reporting.Reporting.{Reporting}
use Rattle.rebuild.specs.declared.reporting.Reporting.TheVariants.{Unlisted, Listed, Asked, Whole, Purged}
use Rattle.server_desk.specs.Desk.{DeskValue}
use Rattle.cluster_law.specs.ServerRules.{Occasion}
use Rattle.cluster_law.specs.ServerState.{ServerState}
use Rattle.server_draft.specs.Draft.{Follows}
use Rattle.server_draft.specs.declared.draft.Draft.{Draft}
use Rattle.server_reports.specs.Reports.{AsksOnly, MayBeAsked}

-- a client that is to be asked is listed
to-ask-is-listed : (r : Reporting) → is_to_ask r ≡ true → r ≡ Listed
to-ask-is-listed Unlisted is = absurd (false≢true is)
to-ask-is-listed Listed is = refl
to-ask-is-listed (Asked next) is = absurd (false≢true is)
to-ask-is-listed Whole is = absurd (false≢true is)
to-ask-is-listed Purged is = absurd (false≢true is)

-- the next client stands within the list, and is listed
first-is : (b : Bool) (first : Option ℕ) (c : ClientId) → (if b then option_map client first else None) ≡ Some c → first ≡ Some c.0
first-is false first c is = absurd (none≢some c is)
  where
    none≢some : (c : ClientId) → None ≢ Some c
    none≢some c e = false≢true (ap (λ (o : Option ClientId). is_some o) e)
first-is true None c is = ap (option_map (λ (c : ClientId). c.0)) is
first-is true (Some n) c is = ap (option_map (λ (c : ClientId). c.0)) is

-- the next client that is asked: it stands within the list, and is listed alone
pub record IsNext (s : Collecting) (c : ClientId) : Type 0 where
  pub within : c.0 < length s.standings
  pub listed : get_or s.standings c.0 Unlisted ≡ Listed

pub next-is : (s : Collecting) (c : ClientId) → next_of s ≡ Some c → IsNext s c
next-is s c is =
    let at = position-Some is_to_ask s.standings c.0 Unlisted (first-is (nat_lt (count_by is_asked s.standings) s.window) (position is_to_ask s.standings) c is) in
    record { within = at.0; listed = to-ask-is-listed (get_or s.standings c.0 Unlisted) at.1 }

one-less : (a b n : ℕ) → a + n ≡ b + 0 → n ≡ 1 → a < b
one-less a b n counted one = omega arith

-- fewer are to be asked then: an Ask goes out for each, and the loop over them ends
fewer-to-ask : (s : Collecting) (c : ClientId) → next_of s ≡ Some c → count_by is_to_ask (asking s (Some c)).standings < count_by is_to_ask s.standings
fewer-to-ask s c is =
    let at = next-is s c is in
    one-less (count_by is_to_ask (set s.standings c.0 (Asked 0))) (count_by is_to_ask s.standings) (cond (is_to_ask (get_or s.standings c.0 Unlisted)) 1 0)
    (sum_by-set (λ r. cond (is_to_ask r) 1 0) s.standings c.0 (Asked 0) Unlisted at.within) (ap (λ (r : Reporting). cond (is_to_ask r) 1 0) at.listed)

-- the same clients are missing
same-missing : (s : Collecting) (c : ClientId) → IsNext s c → missing_of (asking s (Some c)) ≡ missing_of s
same-missing s c at =
    ap (λ (n : ℕ). option_map client (cond (nat_lt (position_or_len is_missing (set s.standings c.0 (Asked 0))) n) (Some (position_or_len is_missing (set s.standings c.0 (Asked 0)))) None)) (length-set s.standings c.0 (Asked 0))
    ∙ ap (λ (n : ℕ). option_map client (cond (nat_lt n (length s.standings)) (Some n) None)) (position_or_len-set is_missing s.standings c.0 (Asked 0) Unlisted (sym (ap is_missing at.listed)))

-- where a client stands that was asked, or another
at-standing : (s : Collecting) (c other : ClientId) → IsNext s c → MayBeAsked (standing_of s other) (standing_of (asking s (Some c)) other)
at-standing s c other at = elim (cases_eq other.0 c.0) [
  | inl same ↦ inr (
    subst (λ (n : ℕ). unwrap_or (slice_get s.standings n) Unlisted ≡ Listed) (sym same) (unwrap_or-slice_get s.standings c.0 Unlisted ∙ at.listed),
    subst (λ (n : ℕ). unwrap_or (slice_get (set s.standings c.0 (Asked 0)) n) Unlisted ≡ Asked 0) (sym same) (unwrap_or-slice_get (set s.standings c.0 (Asked 0)) c.0 Unlisted ∙ get_or-set_same s.standings c.0 (Asked 0) Unlisted at.within),
  )
  | inr apart ↦ inl (unwrap_or-slice_get (set s.standings c.0 (Asked 0)) other.0 Unlisted ∙ get_or-set_other s.standings c.0 other.0 (Asked 0) Unlisted apart ∙ sym (unwrap_or-slice_get s.standings other.0 Unlisted))
]

-- one step more of a client's standing
then-stands : (old mid new : Reporting) → MayBeAsked old mid → MayBeAsked mid new → MayBeAsked old new
then-stands old mid new (inl same) (inl again) = inl (again ∙ same)
then-stands old mid new (inl same) (inr now) = inr (sym same ∙ now.0, now.1)
then-stands old mid new (inr was) (inl again) = inr (was.0, again ∙ was.1)
then-stands old mid new (inr was) (inr now) = absurd (false≢true (ap is_to_ask (sym was.1 ∙ now.0)))

-- nobody is asked
pub asks-none : (d : Draft) → AsksOnly d d
asks-none d = record {
  image = refl;
  requests = refl;
  asked = refl;
  window = refl;
  table = refl;
  missing = refl;
  standings = λ c. inl refl;
}

-- the next client is asked
pub asks-one-more : (old mid new : Draft) (c : ClientId) → next_of mid.desk.collecting ≡ Some c → AsksOnly old mid → new.image ≡ mid.image → new.desk ≡ record mid.desk { collecting = asking mid.desk.collecting (Some c) } → AsksOnly old new
asks-one-more old mid new c is only image desk =
    let at = next-is mid.desk.collecting c is in
    record {
      image = image ∙ only.image;
      requests = ap (λ (d : DeskValue). d.requests) desk ∙ only.requests;
      asked = ap (λ (d : DeskValue). d.asked) desk ∙ only.asked;
      window = ap (λ (d : DeskValue). d.collecting.window) desk ∙ only.window;
      table = ap (λ (d : DeskValue). d.collecting.table) desk ∙ only.table;
      missing = ap (λ (d : DeskValue). missing_of d.collecting) desk ∙ same-missing mid.desk.collecting c at ∙ only.missing;
      standings = λ other.
          then-stands (standing_of old.desk.collecting other) (standing_of mid.desk.collecting other) (standing_of new.desk.collecting other) (only.standings other)
          (subst (λ (r : Reporting). MayBeAsked (standing_of mid.desk.collecting other) r) (sym (ap (λ (d : DeskValue). standing_of d.collecting other) desk)) (at-standing mid.desk.collecting c other at));
    }

-- once an Ask was put, fewer are to be asked
pub ends : (mid new : Draft) (c : ClientId) → next_of mid.desk.collecting ≡ Some c → new.desk ≡ record mid.desk { collecting = asking mid.desk.collecting (Some c) }
    → count_by is_to_ask new.desk.collecting.standings < count_by is_to_ask mid.desk.collecting.standings
ends mid new c is desk =
    subst (λ (d : DeskValue). count_by is_to_ask d.collecting.standings < count_by is_to_ask mid.desk.collecting.standings) (sym desk) (fewer-to-ask mid.desk.collecting c is)

-- where nobody is next, the draft is as it was
pub still : (view : ℕ) (o : Occasion) (start : ServerState) (d : Draft) (desk : DeskValue) → desk ≡ record d.desk { collecting = asking d.desk.collecting None } → Follows view o start d
    → Follows view o start (record { desk = desk; image = d.image; acts = d.acts })
still view o start d desk is follows = subst (λ (x : DeskValue). Follows view o start (record { desk = x; image = d.image; acts = d.acts })) (sym is) follows
