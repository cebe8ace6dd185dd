-- What acts write in their places, as the law's server has it.
use Rattle.std.proofs.Common.{◌≡◌, ◌+◌, ◌<◌, ◌++◌, ◌∷◌, [], ℕ, List, take, get_or, length, map, ap, refl, slice_set, sym, ◌∙◌}
use Rattle.std.proofs.lemmas.List.{append_assoc, append-nil, take_more}
use Rattle.cal_base.specs.declared.identity.ClientId.{ClientId}
use Rattle.message.specs.declared.message.Message.{Message}
use Rattle.message.specs.declared.message.Message.TheVariants.{Acquire, Grant, Refuse, Change, Done, Flush, Flushed, Revoke as AsksBack, Release, Ask, Piece, Wait, Admit}
use Rattle.shared_disk.specs.Sectors.{written}
use Rattle.cluster_law.specs.Lanes as law
use Rattle.cluster_law.specs.Lists.{onto}
use Rattle.cluster_law.specs.ServerState.{ServerState, after_act, after_acts, telling}
use Rattle.server_draft.specs.Acts.{act_of, acts_of, places, places_of}
use Rattle.server_draft.specs.declared.act.Act.{Act}
use Rattle.server_draft.specs.declared.act.Act.TheVariants.{Tells, Commits, Drops}

written-append : (sectors : List (List ℕ)) (xs ys : List (ℕ × List ℕ)) → written (written sectors xs) ys ≡ written sectors (xs ++ ys)
written-append sectors [] ys = refl
written-append sectors (x ∷ xs) ys = written-append (slice_set sectors x.0 x.1) xs ys

told-sectors : (server : ServerState) (client : ClientId) (message : Message) → (telling server client message).sectors ≡ server.sectors
told-sectors server client (Acquire number want) = refl
told-sectors server client (Grant number items) = refl
told-sectors server client (Refuse number free needed) = refl
told-sectors server client (Change number call) = refl
told-sectors server client (Done number reply) = refl
told-sectors server client (Flush flush) = refl
told-sectors server client (Flushed number) = refl
told-sectors server client (AsksBack revoke) = refl
told-sectors server client (Release release) = refl
told-sectors server client Ask = refl
told-sectors server client (Piece piece) = refl
told-sectors server client (Wait number least) = refl
told-sectors server client Admit = refl

-- an act writes what it writes in its places
act-writes : (view : ℕ) (server : ServerState) (act : Act) → (after_act server (act_of view act)).sectors ≡ written server.sectors (places_of act)
unfolding after_act
act-writes view server (Tells client message) = told-sectors server client message
act-writes view server (Commits commit) = written-append server.sectors commit.lays commit.homes
act-writes view server Drops = refl

acts-write : (view : ℕ) (start : ServerState) (acts : List Act) (before : List law.Act) → (after_acts start (onto (map (act_of view) acts) before)).sectors ≡ written (after_acts start before).sectors (places acts)
unfolding after_acts places
acts-write view start [] before = refl
acts-write view start (act ∷ acts) before =
    acts-write view start acts (act_of view act ∷ before)
    ∙ ap (λ (ss : List (List ℕ)). written ss (places acts)) (act-writes view (after_acts start before) act)
    ∙ written-append (after_acts start before).sectors (places_of act) (places acts)

-- the sectors of the law's server are those of the start, with all that was written
pub all-written : (view : ℕ) (start : ServerState) (acts : List Act) → (after_acts start (acts_of view acts)).sectors ≡ written start.sectors (places acts)
unfolding acts_of after_acts
all-written view start acts = acts-write view start acts []

-- the places of acts that are put to others
places-append : (acts more : List Act) → places (acts ++ more) ≡ places acts ++ places more
unfolding places
places-append [] more = refl
places-append (act ∷ acts) more = ap (λ (ws : List (ℕ × List ℕ)). places_of act ++ ws) (places-append acts more) ∙ sym (append_assoc (places_of act) (places acts) (places more))

-- one act more is put behind
pub places-more : (acts : List Act) (i : ℕ) (d act : Act) (old new : List (ℕ × List ℕ)) → i < length acts → old ≡ places (take i acts) → act ≡ get_or acts i d → new ≡ old ++ places_of act → new ≡ places (take (i + 1) acts)
unfolding places
places-more acts i d act old new within so is put =
    put
    ∙ ap (λ (ws : List (ℕ × List ℕ)). ws ++ places_of act) so
    ∙ ap (λ (a : Act). places (take i acts) ++ places_of a) is
    ∙ ap (λ (ws : List (ℕ × List ℕ)). places (take i acts) ++ ws) (sym (append-nil (places_of (get_or acts i d))))
    ∙ sym (places-append (take i acts) (get_or acts i d ∷ []))
    ∙ ap places (sym (take_more acts i d within))
