-- Holds that are answered one after the other are answered together.
use Rattle.std.proofs.Common.{◌≡◌, ◌<◌, ◌+◌, ◌++◌, ◌∷◌, [], ℕ, List, Option, length, take, get_or, if◌then◌else◌, ap, refl, subst, sym, ◌∙◌}
use Rattle.std.proofs.lemmas.List.{take_more}
use Rattle.cal_base.specs.declared.identity.ClientId.{ClientId}
use Rattle.cal_base.specs.declared.identity.Ino.{Ino}
use Rattle.rebuild.specs.Collecting.{Collecting}
use Rattle.rebuild.specs.Reports.{Lowers, Releases}
use Rattle.revocation.specs.Waiting.{Answers, Waiting, asked_at, still_asked}
use Rattle.token_kind.specs.declared.«class».Class.{Class}
use Rattle.token_kind.specs.declared.hold.Hold.{Hold}
use Rattle.token_table.specs.Table.{Table, held_of, key_of, same_key}
use Rattle.token_table.specs.declared.hold_key.HoldKey.{HoldKey}
use Rattle.cluster_law.specs.ServerState.{answered, answered_all}
use Rattle.server_book.specs.Alike.{AnswersAll}
use Rattle.server_book.proofs.Bridging.{answers-none, lowers-first, lowers-none}
use Rattle.server_book.proofs.SameAsked.{answers}

-- the last of some holds is answered last
answered-last : (t : Table) (c : ClientId) (ino : Ino) (items : List (Class × Hold)) (item : Class × Hold) (asked : List (HoldKey × Hold))
    → answered_all t c ino (items ++ item ∷ []) asked ≡ answered (answered_all t c ino items asked) (key_of c ino item.0) (held_of t c ino item.0)
unfolding answered_all
answered-last t c ino [] item asked = refl
answered-last t c ino (first ∷ items) item asked = answered-last t c ino items item (answered asked (key_of c ino first.0) (held_of t c ino first.0))

-- some holds are answered, and then one more
pub answers-next : (t : Table) (c : ClientId) (ino : Ino) (items : List (Class × Hold)) (i : ℕ) (d : Class × Hold) (old mid new : List (HoldKey × Hold)) → i < length items
    → AnswersAll t c ino (take i items) old mid → Answers mid new (key_of c ino (get_or items i d).0) (held_of t c ino (get_or items i d).0) → AnswersAll t c ino (take (i + 1) items) old new
answers-next t c ino items i d old mid new within all one q =
    let item = get_or items i d in
    let key = key_of c ino item.0 in
    let left = held_of t c ino item.0 in
    let law = answered_all t c ino (take i items) old in
    one q ∙ ap (λ (o : Option Hold). if same_key key q then still_asked o left else o) (all q) ∙ sym (answers law key left q)
    ∙ ap (λ (asked : List (HoldKey × Hold)). asked_at asked q) (sym (answered-last t c ino (take i items) item old))
    ∙ ap (λ (xs : List (Class × Hold)). asked_at (answered_all t c ino xs old) q) (sym (take_more items i d within))

-- the same, where the hold is looked up by another name, and the line's requests stay
pub answered-next : (t : Table) (c : ClientId) (ino : Ino) (items : List (Class × Hold)) (i : ℕ) (d : Class × Hold) (left : Hold) (old mid new : Waiting) → i < length items
    → AnswersAll t c ino (take i items) old.asked mid.asked × (mid.requests ≡ old.requests) → left ≡ held_of t c ino (get_or items i d).0
    → Answers mid.asked new.asked (key_of c ino (get_or items i d).0) left → new.requests ≡ mid.requests
    → AnswersAll t c ino (take (i + 1) items) old.asked new.asked × (new.requests ≡ old.requests)
answered-next t c ino items i d left old mid new within both named one same =
    (answers-next t c ino items i d old.asked mid.asked new.asked within both.0 (subst (λ (h : Hold). Answers mid.asked new.asked (key_of c ino (get_or items i d).0) h) named one), same ∙ both.1)

-- no hold is answered yet
pub answered-none : (t : Table) (c : ClientId) (ino : Ino) (line : Waiting) → AnswersAll t c ino [] line.asked line.asked × (line.requests ≡ line.requests)
answered-none t c ino line = (answers-none t c ino line.asked, refl)

-- two holds are lowered, one after the other
pub lowers-two : (old mid new : Collecting) (client : ClientId) (ino : Ino) (cls cls' : Class) (to to' : Hold) → Lowers old mid client ino cls to → Lowers mid new client ino cls' to'
    → Releases old new client (record { ino = ino; items = (cls, to) ∷ (cls', to') ∷ [] })
lowers-two old mid new client ino cls cls' to to' one two =
    lowers-first old mid new client ino cls to ((cls', to') ∷ []) one (lowers-first mid new new client ino cls' to' [] two (lowers-none new client ino))
