-- What a making and a good write leave.
use Rattle.std.proofs.Common.{◌≡◌, ℕ, ◌/◌, ◌<◌, ◌≤◌, cond, List, length, vec_items, Ok, sym, ap, ◌∙◌, subst, arith, rules, tests, le-ltb, lt-ltb}
use Rattle.std.proofs.lemmas.List.{length-map}
use Rattle.disk.specs.declared.error.Kind.TheVariants as kind
use Rattle.disk.specs.Calls.{fate, served, answer, leaves, WritesBy}
use Rattle.memdisk.specs.Admission.{Admits}
use Rattle.disk.specs.Medium.{Block, Medium, Entry, Write, size, later, join, settle, joined, settled, loose_max, take_effect, put}
use Rattle.memdisk.specs.declared.blocks.Blocks.{Blocks}
use Rattle.memdisk.specs.declared.loose.LooseWrite.{LooseWrite}
use Rattle.memdisk.specs.declared.plan.Plan.{Plan}
use Rattle.memdisk.specs.Parts.{medium_of, as_write, writes_of}
use Rattle.memdisk.specs.Memory.{blocks_in}
use Rattle.memdisk.specs.Making.{Holds}
use Rattle.memdisk.specs.Soundness.{length_blocks}

-- memory whose blocks are firm
pub holds : (b : Blocks) (ws : List LooseWrite) (p : Plan) → Holds (medium_of b ws p) (vec_items b.memory)
holds b ws p =
    let long = length_blocks (length (vec_items b.memory) / 512) (vec_items b.memory) in
    record { whole = omega arith; blocks = ap (λ n. blocks_in n (vec_items b.memory)) long }

-- a good write on a held disk, by whether it has room
pub put_joins : (m : Medium) (w : Write) → length m.loose < 8 → put join m w ≡ joined m w
put_joins m w h = ap (λ t. take_effect (cond t join settle) m w) (lt-ltb (length m.loose) loose_max h)

pub put_settles : (m : Medium) (w : Write) → 8 ≤ length m.loose → put join m w ≡ settled m w
put_settles m w h = ap (λ t. take_effect (cond t join settle) m w) (le-ltb (length m.loose) loose_max h)

pub length_writes : (ws : List LooseWrite) → length (writes_of ws) ≡ length ws
length_writes ws = length-map ws as_write

-- an admitted write of a block is served, and takes a good entry off the plan
admitted : (m : Medium) (es : List Entry) (place n : ℕ) → Admits (size m) m.plan kind.Write place 512 (Ok tt) es → n ≡ 512 → (fate m place n ≡ served) × (es ≡ later m.plan)
admitted m es place n told long = search (rules, tests)

-- one that leaves what a good write does, where the plan is the later one
pub wrote : (m : Medium) (count : ℕ) (es : List Entry) (place : ℕ) (bytes : Block) (n : Medium) → Admits count m.plan kind.Write place 512 (Ok tt) es → count ≡ size m → length bytes ≡ 512
    → (es ≡ later m.plan → n ≡ put join m (record { place = place; bytes = bytes })) → WritesBy join 1 m place bytes (Ok tt) n
wrote m count es place bytes n told counted long is =
    let good = admitted m es place (length bytes) (subst (λ s. Admits s m.plan kind.Write place 512 (Ok tt) es) counted told) long in
    record { answers = ap (answer 1 kind.Write place) (sym good.0); after = is good.1 ∙ ap (leaves m (put join m (record { place = place; bytes = bytes }))) (sym good.0) }
