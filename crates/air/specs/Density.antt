-- Air density by height (02, 6): a table each 100 m, and the value between two rows. Definitions only.
use Rattle.std.specs.Prelude.{◌*◌, suc, zero, ℕ, Float, get_or, cond, List, [], ◌∷◌, map}
use Rattle.std.specs.Float.{binary32, nan}
use Rattle.std.specs.Float.Ieee.{le, minus, of_int}
use Rattle.float.specs.Notation.{◌⊕◌, ◌⊖◌, ◌⊗◌, ◌⊘◌, rounded}

-- the rows, counted from 0
abbrev pub last_row : ℕ
last_row = 60

abbrev pub row_count : ℕ
row_count = suc last_row

-- the density at each row's height, in ten-thousandths of 1 kg/m³: ISO 2533's 1.225 · (1 - 0.0065 · H / 288.15) ^ 4.25588, rounded to
-- four decimals
unfoldable pub ten_thousandths : List ℕ
ten_thousandths =
    13470 ∷  -- -1000 m
    13344 ∷  -- -900 m
    13219 ∷  -- -800 m
    13095 ∷  -- -700 m
    12971 ∷  -- -600 m
    12849 ∷  -- -500 m
    12727 ∷  -- -400 m
    12607 ∷  -- -300 m
    12487 ∷  -- -200 m
    12368 ∷  -- -100 m
    12250 ∷  -- 0 m
    12133 ∷  -- 100 m
    12017 ∷  -- 200 m
    11901 ∷  -- 300 m
    11786 ∷  -- 400 m
    11673 ∷  -- 500 m
    11560 ∷  -- 600 m
    11448 ∷  -- 700 m
    11336 ∷  -- 800 m
    11226 ∷  -- 900 m
    11116 ∷  -- 1000 m
    11008 ∷  -- 1100 m
    10900 ∷  -- 1200 m
    10793 ∷  -- 1300 m
    10686 ∷  -- 1400 m
    10581 ∷  -- 1500 m
    10476 ∷  -- 1600 m
    10372 ∷  -- 1700 m
    10269 ∷  -- 1800 m
    10166 ∷  -- 1900 m
    10065 ∷  -- 2000 m
    9964 ∷  -- 2100 m
    9864 ∷  -- 2200 m
    9765 ∷  -- 2300 m
    9666 ∷  -- 2400 m
    9569 ∷  -- 2500 m
    9472 ∷  -- 2600 m
    9375 ∷  -- 2700 m
    9280 ∷  -- 2800 m
    9185 ∷  -- 2900 m
    9091 ∷  -- 3000 m
    8998 ∷  -- 3100 m
    8905 ∷  -- 3200 m
    8814 ∷  -- 3300 m
    8723 ∷  -- 3400 m
    8632 ∷  -- 3500 m
    8543 ∷  -- 3600 m
    8454 ∷  -- 3700 m
    8366 ∷  -- 3800 m
    8278 ∷  -- 3900 m
    8191 ∷  -- 4000 m
    8105 ∷  -- 4100 m
    8020 ∷  -- 4200 m
    7935 ∷  -- 4300 m
    7851 ∷  -- 4400 m
    7768 ∷  -- 4500 m
    7685 ∷  -- 4600 m
    7603 ∷  -- 4700 m
    7522 ∷  -- 4800 m
    7441 ∷  -- 4900 m
    7361 ∷  -- 5000 m
    []

unfoldable pub densities : List Float
densities = map (λ (n : ℕ). rounded n 10000) ten_thousandths

unfoldable pub density_of : ℕ → Float
density_of i = get_or densities i nan

-- the height of row i in m: from -1000 m on, each 100 m
unfoldable pub height_of : ℕ → Float
height_of i = of_int binary32 (minus (100 * i) 1000)

-- the highest row from i down that is not above the height; row 0 where none is
unfoldable pub row_down_from : ℕ → Float → ℕ
row_down_from zero h = 0
row_down_from (suc i) h = cond (le (height_of (suc i)) h) (suc i) (row_down_from i h)

-- between row i and the next
unfoldable pub between : ℕ → Float → Float
between i h = density_of i ⊕ (density_of (suc i) ⊖ density_of i) ⊗ ((h ⊖ height_of i) ⊘ rounded 100 1)

-- the density at a height in m; at an end of the table and beyond it, the end's
unfoldable pub density_at : Float → Float
density_at h =
    cond (le h (height_of 0)) (density_of 0)
    (cond (le (height_of last_row) h) (density_of last_row) (between (row_down_from last_row h) h))
