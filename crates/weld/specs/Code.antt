-- What the clauses of the code cite: what each part of welding leaves. Definitions only.
use Rattle.std.specs.Prelude.{◌≡◌, List, ℕ, ◌+◌, ◌*◌, ◌≤◌, Float, length, take, drop}
use Rattle.vector.specs.Vector.{Vector}
use Rattle.vector.specs.Rows.{rows, segs}
use Rattle.weld.specs.declared.Edge.{Edge}
use Rattle.weld.specs.Weld.{Within, place, push, add_edge, welded_points, listed_edges}

-- what welding s segments is lent: room for two points and one edge a segment
pub record Weldable (s : ℕ) (points : List Float) (edges : List Edge) : Type 0 where
  pub few : s ≤ 384
  pub for_points : 4 * s ≤ length points
  pub for_edges : s ≤ length edges

-- p has become point k: one of the n points in zs, or a new one written after them
pub record Became (p : Vector) (tol2 : Float) (n : ℕ) (zs : List Float) (k n' : ℕ) (zs' : List Float) : Type 0 where
  pub number : k ≡ place p tol2 (rows 2 n zs)
  pub points : rows 2 n' zs' ≡ push p tol2 (rows 2 n zs)
  pub rest : drop (2 * n') zs' ≡ drop (2 * n') zs

-- the edge between points a and b has been added to the first m of es
pub record Added (a b m : ℕ) (es : List Edge) (m' : ℕ) (es' : List Edge) : Type 0 where
  pub edges : take m' es' ≡ add_edge a b (take m es)
  pub one_more : m' ≤ m + 1

-- the segment from p to q has been welded to the n points in zs and the first m edges of es
pub record SegmentWelded (p q : Vector) (tol2 : Float) (n : ℕ) (zs : List Float) (m : ℕ) (es : List Edge)
    (n' : ℕ) (zs' : List Float) (m' : ℕ) (es' : List Edge) : Type 0 where
  pub points : rows 2 n' zs' ≡ push q tol2 (push p tol2 (rows 2 n zs))
  pub edges : take m' es' ≡ add_edge (place p tol2 (rows 2 n zs)) (place q tol2 (push p tol2 (rows 2 n zs))) (take m es)
  pub rest : drop (2 * n') zs' ≡ drop (2 * n') zs
  pub one_more : m' ≤ m + 1

-- The first s segments of ss have been welded: n points into zs, whose remainder is that of zs₀, and m edges into es.
-- What es holds beyond m is not said: it is scratch.
pub record Welds (tol2 : Float) (ss : List Float) (s : ℕ) (zs₀ : List Float) (n m : ℕ) (zs : List Float) (es : List Edge) : Type 0 where
  pub points : rows 2 n zs ≡ welded_points tol2 (segs 2 s ss)
  pub rest : drop (2 * n) zs ≡ drop (2 * n) zs₀
  pub edges : take m es ≡ listed_edges tol2 (segs 2 s ss)
  pub few_points : n ≤ 2 * s
  pub few_edges : m ≤ s
  pub within : Within (take m es) n
