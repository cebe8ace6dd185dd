-- What a stop leaves in a sector: bytes that are laid over zeros are padded.
use Rattle.std.proofs.Common.{◌≡◌, ◌-◌, ◌++◌, ◌∙◌, ℕ, List, Some, drop, take, length, replicate, min, ap, sym, arith}
use Rattle.std.proofs.lemmas.List.{drop-replicate, length-take, take_min}
use Rattle.script.specs.declared.script.How.{How}
use Rattle.script.specs.declared.script.How.TheVariants.{Fill}
use Rattle.schedule.specs.Stops.{padded, torn_by}

laid : (size : ℕ) (bytes : List ℕ) → take (min size (length bytes)) bytes ++ drop (length (take (min size (length bytes)) bytes)) (replicate size 0) ≡ take size bytes ++ replicate (size - length bytes) 0
laid size bytes =
    ap (λ (front : List ℕ). front ++ drop (length (take (min size (length bytes)) bytes)) (replicate size 0)) (take_min size bytes)
    ∙ ap (λ (rest : List ℕ). take size bytes ++ rest) (drop-replicate (length (take (min size (length bytes)) bytes)) size 0)
    ∙ ap (λ (count : ℕ). take size bytes ++ replicate count 0) (left size (length bytes) (length (take (min size (length bytes)) bytes)) (length-take (min size (length bytes)) bytes))
  where
    left : (size all count : ℕ) → count ≡ min (min size all) all → size - count ≡ size - all
    left size all count e = omega (arith, e)

pub padded_is : (bytes contents sector : List ℕ) (count : ℕ) → count ≡ min 4096 (length bytes) → contents ≡ replicate 4096 0 → sector ≡ take count bytes ++ drop (length (take count bytes)) contents → sector ≡ padded bytes
padded_is bytes contents sector count e f g =
    g
    ∙ ap (λ (contents : List ℕ). take count bytes ++ drop (length (take count bytes)) contents) f
    ∙ ap (λ (count : ℕ). take count bytes ++ drop (length (take count bytes)) (replicate 4096 0)) e
    ∙ laid 4096 bytes

pub torn_fill : (how : How) (byte : ℕ) (sector : List ℕ) → how ≡ Fill byte → sector ≡ replicate 4096 byte → Some sector ≡ torn_by how
torn_fill how byte sector e f = ap (λ (sector : List ℕ). Some sector) f ∙ sym (ap torn_by e)
