-- From the scan to the answer. Assumes nothing.
use Prim.Native.Nat.{ℕ, suc, ◌≤◌, ◌<◌}
use mathlib.Core.Path.{◌≡◌, refl, sym, ap, ap₂, ◌∙◌}
use mathlib.Core.Bool.{Bool, true, false, ◌&&◌}
use lib.Dec.{eqb}
use native.Mathlib.Decide.{ℕ_discrete}
use mathlib.Core.List.{List}
use native.Mathlib.Omega.{arith}
use lib.ListN.{length, drop, length-drop}
use borrow.Author.Tests.{lt-ltb, le-ltb, eq-eqb, ne_eqb}
use Rattle.scan.specs.declared.pass.Scan.{Scan}
use Rattle.scan.specs.declared.Scanned.{Scanned}
use Rattle.scan.specs.Answer.{told}
use Rattle.scan.specs.InnerView.{Followed, all_scanned}
use Rattle.std.specs.List.{starts_with}
use Rattle.std.specs.Prelude.{Some, None, [], ◌∷◌, nat_eq}
use Rattle.std.proofs.Common.{inl, inr}
use Rattle.code.specs.Bytes.{IsCode}
use Rattle.code.specs.Reader.{code_marked, read_code_tree, short_only, read_code}
use Rattle.code.specs.InnerScan.{scan_start, scan_ops, Summary, summary, scan_code}
use Rattle.code.specs.InnerScan as list
use Rattle.code.proofs.Flat.{code-length}
use Rattle.code.proofs.Foreign.{only_foreign}
use Rattle.code.proofs.ReadBack.{read_is_code, code_small}
use Rattle.code.proofs.Scans.{scan_is_read}
use Rattle.script.specs.Bytes.{Bytes, job_bytes}
use Rattle.script.specs.Count.{code_length, nodes_p}
use Rattle.script.specs.Outcome.{Outcome, refused, done, onward, mapped}
use Rattle.script.specs.Jobs.{Job, number16}
use Rattle.script.specs.Reader.{taken}
use Rattle.scan.proofs.Loops.{scan_fuel}

-- the answer, from the summary
abbrev summed : Outcome Summary → Outcome Scanned
summed = mapped (λ (s : Summary). record { version = s.version; nodes = s.nodes; size = s.size })

abbrev scanned : (version nodes size : ℕ) → Outcome Scanned
scanned version nodes size = done (record { version = version; nodes = nodes; size = size })

told_summed : (o : Outcome Job) → summed (mapped summary o) ≡ told o
unfolding summary
told_summed (refused number place) = refl
told_summed (done j) = refl

-- the numbers of an answer
version_of : Outcome Scanned → ℕ
version_of (refused number place) = number
version_of (done s) = s.version

nodes_of : Outcome Scanned → ℕ
nodes_of (refused number place) = place
nodes_of (done s) = s.nodes

size_of : Outcome Scanned → ℕ
size_of (refused number place) = 0
size_of (done s) = s.size

-- the answer has the whole summary
pub told_determines : (a b : Outcome Job) → told a ≡ told b → mapped summary a ≡ mapped summary b
unfolding summary version_of nodes_of size_of
told_determines (refused n p) (refused m q) e = cc
told_determines (refused n p) (done j) e = absurd (let z : ◌≡◌ {A = ℕ} 0 1 = cc in omega arith)
told_determines (done i) (refused m q) e = absurd (let z : ◌≡◌ {A = ℕ} 0 1 = cc in omega arith)
told_determines (done i) (done j) e =
    let version : i.version ≡ j.version = ap version_of e in
    let nodes : nodes_p i.tree ≡ nodes_p j.tree = ap nodes_of e in
    let size : length (job_bytes i.version i.tree) ≡ length (job_bytes j.version j.tree) = ap size_of e in
    cc

told_is : (code : List ℕ) → summed (scan_code code) ≡ told (read_code_tree code)
told_is code = ap summed (scan_is_read code) ∙ told_summed (read_code_tree code)

was_foreign : (o : Outcome Job) → refused 11 0 ≡ told o → o ≡ refused 11 0
was_foreign (refused n p) e = cc
was_foreign (done j) e = absurd (let z : ◌≡◌ {A = ℕ} 0 1 = cc in omega arith)

was_read : (o : Outcome Job) (version nodes size : ℕ) → scanned version nodes size ≡ told o → (j : Job) × (o ≡ done j)
was_read (refused n p) version nodes size e = absurd (let z : ◌≡◌ {A = ℕ} 0 1 = cc in omega arith)
was_read (done j) version nodes size e = (j, refl)

module _ (code : List ℕ) (bytes : Bytes code) where
  pub too_short : length code < 5 → refused 11 0 ≡ told (read_code code)
  unfolding read_code read_code_tree
  too_short h = rw (lt-ltb (length code) 5 h)

  -- the code of a job within the limits is at most 5,005 bytes long
  pub too-long : 5005 < length code → refused 11 0 ≡ told (read_code code)
  unfolding code_length
  too-long h = go (read_code code) refl
    where
      go : (o : Outcome Job) → read_code code ≡ o → refused 11 0 ≡ told o
      go (refused n p) e = let h = only_foreign code n p e in ap₂ refused (sym h.0) (sym h.1)
      go (done j) e =
          let c : IsCode code j = read_is_code code j bytes e in
          let l : length code ≡ code_length j.tree = ap length c.text ∙ code-length j in
          absurd (far j c.within.sized.few (rw l at h))
        where
          far : (j : Job) → nodes_p j.tree ≤ 1000 → 5005 < code_length j.tree → ⊥
          far j few m = omega (arith, code_small j.tree)

  module _ (long : 5 ≤ length code) where
    pub bad_mark : code_marked code ≡ false → refused 11 0 ≡ told (read_code code)
    unfolding read_code read_code_tree
    bad_mark e = rw (le-ltb (length code) 5 long, e)

    module _ (mark : code_marked code ≡ true) where
      pub bad_version : (number16 code 3 ≡ 1 → ⊥) → refused 11 0 ≡ told (read_code code)
      unfolding read_code read_code_tree taken
      bad_version n = rw (le-ltb (length code) 5 long, mark, ne_eqb (number16 code 3) 1 n)

      module _ (version : number16 code 3 ≡ 1) where
        abbrev with_version : list.ListScan → Summary
        with_version t = record { version = number16 code 3; nodes = t.nodes; size = t.size }

        -- what the lists come to is what a job within document 01's limits comes to
        whole : mapped with_version (all_scanned code) ≡ scan_code code
        unfolding scan_code taken
        whole =
            let f : all_scanned code ≡ scan_ops (suc (length code)) scan_start (drop 5 code) = scan_fuel (suc (length (drop 5 code))) (suc (length code)) scan_start (drop 5 code) (omega arith) (omega (arith, length-drop 5 code)) in
            rw (le-ltb (length code) 5 long, mark, eq-eqb (number16 code 3) 1 version) (ap (mapped with_version) f)

        told_whole : {x : Outcome list.ListScan} → all_scanned code ≡ x → summed (mapped with_version x) ≡ told (read_code_tree code)
        told_whole e = ap (λ (o : Outcome list.ListScan). summed (mapped with_version o)) (sym e) ∙ (ap summed whole ∙ told_is code)

        pub is_foreign : Followed code None → refused 11 0 ≡ told (read_code code)
        unfolding read_code
        is_foreign (inl e) = rw (was_foreign (read_code_tree code) (told_whole e))
        is_foreign (inr over) = go (read_code_tree code) refl
          where
            go : (o : Outcome Job) → read_code_tree code ≡ o → refused 11 0 ≡ told (onward o short_only)
            go (refused n p) e =
                let f : read_code code ≡ refused n p = ap (λ (o : Outcome Job). onward o short_only) e in
                let h = only_foreign code n p f in
                ap₂ refused (sym h.0) (sym h.1)
            go (done j) e = rw (over j e)

        pub is_job : (s : Scan) → Followed code (Some s) → scanned (number16 code 3) s.nodes s.size ≡ told (read_code code)
        unfolding read_code
        is_job s (e, fine) =
            let p : scanned (number16 code 3) s.nodes s.size ≡ told (read_code_tree code) = told_whole e in
            let w = was_read (read_code_tree code) (number16 code 3) s.nodes s.size p in
            let q : scanned (number16 code 3) s.nodes s.size ≡ told (done w.0) = rw w.1 at p in
            rw (w.1, fine w.0 w.1) q

-- std's test of the mark is the reader's
flipped : (a b : ℕ) → nat_eq a b ≡ eqb b a
flipped a b = go (ℕ_discrete a b)
  where
    go : Dec (a ≡ b) → nat_eq a b ≡ eqb b a
    go (yes e) = rw (eq-eqb a b e, eq-eqb b a (sym e))
    go (no n) = rw (ne_eqb a b n, ne_eqb b a (λ e. n (sym e)))

all_three : (a b c : Bool) → (a && (b && (c && true))) ≡ (a && (b && c))
all_three a b true = refl
all_three a b false = refl

pub is_marked : (code : List ℕ) → 5 ≤ length code → starts_with nat_eq code (0x57 ∷ 0x53 ∷ 0x43 ∷ []) ≡ code_marked code
unfolding code_marked
is_marked [] h = absurd (omega arith)
is_marked (x ∷ []) h = absurd (omega arith)
is_marked (x ∷ y ∷ []) h = absurd (omega arith)
is_marked (x ∷ y ∷ z ∷ r) h = rw (flipped 0x57 x, flipped 0x53 y, flipped 0x43 z) (all_three (eqb x 0x57) (eqb y 0x53) (eqb z 0x43))
