-- The model's definitions give the numbers of the independent version in rust/: three by three cells of each kind, two cells whose step
-- pass 2 stops, and the step program at its limits. Computed by the checker, so that model and independent version are held together.
use Rattle.std.specs.Prelude.{Bool, true, false, cond, List, [], ◌∷◌, ◌++◌, ℕ, ◌*◌, T, ℤ, pos, take, drop, replicate}
use Rattle.model.specs.Numbers.{eqℤ, same_by, all}
use Rattle.model.specs.State.{State}
use Rattle.model.specs.Weights.{conditions}
use Rattle.model.specs.Record.{bytes, encode}
use Rattle.model.specs.Opened.{everything}
use Rattle.model.specs.Examples.{Example, vorticities, tends, probes_grid, rates, energy, steps, runs, prints, holds, minus, done, sevens, zeros, unbarred, time_of, dock}

-- nine cells, deep and shallow, at rest along a wall in the west and in the south; an inflow and a q to lend, which has a number a corner
abbrev unless : Bool → ℤ → ℤ
unless closed x = cond closed (pos 0) x

abbrev nine : (kind : ℕ) (west south : Bool) → State
nine kind west south = record {
  w = 3;
  n = 3;
  kind = kind;
  G = pos 9810;
  c = pos 100;
  R = pos 200000;
  h = pos 2000 ∷ pos 2500 ∷ pos 3000 ∷ pos 1500 ∷ pos 1200 ∷ pos 4000 ∷ pos 3500 ∷ pos 1800 ∷ pos 2200 ∷ [];
  b = pos 10 ∷ pos 20 ∷ pos 30 ∷ pos 40 ∷ pos 50 ∷ pos 60 ∷ pos 70 ∷ pos 80 ∷ pos 90 ∷ [];
  u = unless west (pos 10) ∷ minus 20 ∷ pos 30 ∷ unless west (minus 40) ∷ pos 50 ∷ minus 60 ∷ unless west (pos 70) ∷ minus 80 ∷ pos 90 ∷ [];
  v = unless south (pos 7) ∷ unless south (minus 14) ∷ unless south (pos 21) ∷ minus 28 ∷ pos 35 ∷ minus 42 ∷ pos 49 ∷ minus 56 ∷ pos 63 ∷ [];
  barriers = unbarred 9;
}

abbrev inflow : List ℤ
inflow = pos 1 ∷ minus 2 ∷ pos 3 ∷ minus 4 ∷ pos 5 ∷ minus 6 ∷ pos 7 ∷ minus 8 ∷ pos 9 ∷ []

abbrev lent : List ℤ
lent = pos 1000 ∷ minus 2000 ∷ pos 3000 ∷ minus 4000 ∷ pos 5000 ∷ minus 6000 ∷ pos 7000 ∷ minus 8000 ∷ pos 9000 ∷ []

-- the same of the twelve corners of a channel, and of the sixteen of a basin
abbrev lent_channel : List ℤ
lent_channel = pos 1000 ∷ minus 2000 ∷ pos 3000 ∷ minus 4000 ∷ pos 5000 ∷ minus 6000 ∷ pos 7000 ∷ minus 8000 ∷ pos 9000 ∷ minus 10000 ∷ pos 11000 ∷ minus 12000 ∷ []

abbrev lent_basin : List ℤ
lent_basin = pos 1000 ∷ minus 2000 ∷ pos 3000 ∷ minus 4000 ∷ pos 5000 ∷ minus 6000 ∷ pos 7000 ∷ minus 8000 ∷ pos 9000 ∷ minus 10000 ∷ pos 11000 ∷ minus 12000 ∷ pos 13000 ∷ minus 14000 ∷ pos 15000 ∷ minus 16000 ∷ []

-- nine cells with numbers near their bounds, and a q to lend: the doubles are rounded
abbrev wide : State
wide = record {
  w = 3;
  n = 3;
  kind = 0;
  G = pos 10000;
  c = pos 0;
  R = pos 1000;
  h = pos 99999 ∷ pos 87654 ∷ pos 98765 ∷ pos 76543 ∷ pos 95001 ∷ pos 99000 ∷ pos 100000 ∷ pos 64321 ∷ pos 90909 ∷ [];
  b = pos 0 ∷ pos 1 ∷ pos 99999 ∷ pos 50000 ∷ pos 7 ∷ pos 100000 ∷ pos 3 ∷ pos 31415 ∷ pos 27182 ∷ [];
  u = pos 4999 ∷ minus 4321 ∷ pos 5000 ∷ minus 5000 ∷ pos 4987 ∷ minus 4777 ∷ pos 4501 ∷ minus 3999 ∷ pos 5000 ∷ [];
  v = pos 4997 ∷ pos 4321 ∷ minus 4999 ∷ pos 5000 ∷ minus 4444 ∷ pos 4890 ∷ minus 5000 ∷ pos 4711 ∷ minus 3333 ∷ [];
  barriers = unbarred 9;
}

abbrev wide_vorticity : List ℤ
wide_vorticity = pos 2000000 ∷ minus 1999997 ∷ pos 1234567 ∷ minus 2000000 ∷ pos 1999999 ∷ minus 1876543 ∷ pos 1765432 ∷ minus 2000000 ∷ pos 1999993 ∷ []

-- two cells at rest under a steep surface
abbrev steep : ℤ → State
steep R = record { w = 2; n = 1; kind = 0; G = pos 9810; c = pos 0; R = R; h = pos 1000 ∷ pos 2000 ∷ []; b = (zeros 2); u = (zeros 2); v = (zeros 2); barriers = unbarred 2 }

abbrev pub agreed : List Example
agreed =
    vorticities (nine 0 false false) (zeros 9) done (pos 3577 ∷ pos 508 ∷ pos 5381 ∷ pos 4094 ∷ pos 3386 ∷ pos 2768 ∷ minus 562 ∷ pos 4096 ∷ pos 1966 ∷ [])
    ∷ tends (nine 0 false false) lent (zeros 9) (zeros 9) (zeros 9) done
    (pos 276500 ∷ minus 444700 ∷ pos 518200 ∷ minus 698000 ∷ pos 744500 ∷ minus 776600 ∷ pos 1029500 ∷ minus 891800 ∷ pos 242400 ∷ [])
    (pos 31477776314304 ∷ minus 15739751924416 ∷ minus 15735517989888 ∷ pos 77759320537536 ∷ pos 8947798879168 ∷ minus 86706168616704 ∷ minus 39488814509280 ∷ pos 52148556823776 ∷ minus 12632356514496 ∷ [])
    (pos 48150377146944 ∷ minus 19737807901248 ∷ minus 22843969176640 ∷ pos 14501046246336 ∷ pos 39188443249920 ∷ minus 31784779976896 ∷ minus 62650733393280 ∷ minus 19450802948672 ∷ pos 54597780753536 ∷ [])
    ∷ rates (nine 0 false false) lent inflow (nine 0 false false).b lent (pos 762367042460448) (minus 302970000)
    ∷ energy (nine 0 false false) (pos 0 ∷ pos 1206520900800 ∷ [])
    ∷ steps (nine 0 false false) inflow (sevens 73) done
    (pos 2004 ∷ pos 2496 ∷ pos 3004 ∷ pos 1498 ∷ pos 1210 ∷ pos 3986 ∷ pos 3505 ∷ pos 1790 ∷ pos 2212 ∷ [])
    (pos 60 ∷ minus 45 ∷ pos 5 ∷ pos 84 ∷ pos 64 ∷ minus 197 ∷ pos 7 ∷ pos 4 ∷ pos 69 ∷ [])
    (pos 84 ∷ minus 46 ∷ minus 15 ∷ minus 5 ∷ pos 97 ∷ minus 92 ∷ minus 51 ∷ minus 86 ∷ pos 149 ∷ [])
    (zeros 72 ++ sevens 1)
    ∷ vorticities (nine 1 false true) (zeros 12) done (pos 2621 ∷ pos 2913 ∷ pos 2383 ∷ pos 4094 ∷ pos 3386 ∷ pos 2768 ∷ minus 562 ∷ pos 4096 ∷ pos 1966 ∷ pos 2300 ∷ pos 2473 ∷ pos 3277 ∷ [])
    ∷ tends (nine 1 false true) lent_channel (zeros 9) (zeros 9) (zeros 9) done
    (pos 238000 ∷ minus 384500 ∷ pos 409000 ∷ minus 698000 ∷ pos 744500 ∷ minus 776600 ∷ pos 1068000 ∷ minus 952000 ∷ pos 351600 ∷ [])
    (pos 31478463432960 ∷ minus 15739385718912 ∷ minus 15734605714048 ∷ pos 77759320537536 ∷ pos 8947798879168 ∷ minus 86706168616704 ∷ minus 39517683490624 ∷ pos 52152183329280 ∷ minus 12636834638656 ∷ [])
    (pos 0 ∷ pos 0 ∷ pos 0 ∷ pos 14501238711168 ∷ pos 39188650309248 ∷ minus 31785126793408 ∷ minus 62640050858112 ∷ minus 19438540408000 ∷ pos 54628087370048 ∷ [])
    ∷ rates (nine 1 false true) lent_channel inflow (nine 1 false true).b lent (pos 762360212114912) (minus 302970000)
    ∷ energy (nine 1 false true) (pos 0 ∷ pos 1206517495300 ∷ [])
    ∷ steps (nine 1 false true) inflow (sevens 73) done
    (pos 2003 ∷ pos 2496 ∷ pos 3004 ∷ pos 1498 ∷ pos 1210 ∷ pos 3986 ∷ pos 3506 ∷ pos 1790 ∷ pos 2212 ∷ [])
    (pos 60 ∷ minus 45 ∷ pos 5 ∷ pos 84 ∷ pos 64 ∷ minus 197 ∷ pos 7 ∷ pos 4 ∷ pos 69 ∷ [])
    (pos 0 ∷ pos 0 ∷ pos 0 ∷ minus 5 ∷ pos 97 ∷ minus 92 ∷ minus 51 ∷ minus 86 ∷ pos 149 ∷ [])
    (zeros 72 ++ sevens 1)
    ∷ vorticities (nine 2 true true) (zeros 16) done (pos 3277 ∷ pos 2913 ∷ pos 2383 ∷ pos 2185 ∷ pos 3745 ∷ pos 3386 ∷ pos 2768 ∷ pos 1872 ∷ pos 2621 ∷ pos 4096 ∷ pos 1966 ∷ pos 2114 ∷ pos 1872 ∷ pos 2473 ∷ pos 3277 ∷ pos 2979 ∷ [])
    ∷ tends (nine 2 true true) lent_basin (zeros 9) (zeros 9) (zeros 9) done
    (pos 188000 ∷ minus 384500 ∷ pos 459000 ∷ minus 478000 ∷ pos 744500 ∷ minus 996600 ∷ pos 669000 ∷ minus 952000 ∷ pos 750600 ∷ [])
    (pos 0 ∷ minus 15738637862112 ∷ minus 15736572570848 ∷ pos 0 ∷ pos 8945151087968 ∷ minus 86716519225504 ∷ pos 0 ∷ pos 52144214812480 ∷ minus 12648839921856 ∷ [])
    (pos 0 ∷ pos 0 ∷ pos 0 ∷ pos 14494153359168 ∷ pos 39182842309248 ∷ minus 31803999945408 ∷ minus 62653464632512 ∷ minus 19455789408000 ∷ pos 54605609595648 ∷ [])
    ∷ rates (nine 2 true true) lent_basin inflow (nine 2 true true).b lent (pos 762261396995712) (minus 881360000)
    ∷ energy (nine 2 true true) (pos 0 ∷ pos 1206480265300 ∷ [])
    ∷ steps (nine 2 true true) inflow (sevens 73) done
    (pos 2002 ∷ pos 2496 ∷ pos 3005 ∷ pos 1497 ∷ pos 1210 ∷ pos 3987 ∷ pos 3506 ∷ pos 1790 ∷ pos 2212 ∷ [])
    (pos 0 ∷ minus 45 ∷ pos 5 ∷ pos 0 ∷ pos 64 ∷ minus 197 ∷ pos 0 ∷ pos 4 ∷ pos 69 ∷ [])
    (pos 0 ∷ pos 0 ∷ pos 0 ∷ minus 5 ∷ pos 97 ∷ minus 92 ∷ minus 51 ∷ minus 86 ∷ pos 149 ∷ [])
    (zeros 72 ++ sevens 1)
    ∷ runs (nine 2 true true) inflow 12 (sevens 72) (pos 0 ∷ pos 12 ∷ [])
    (pos 2023 ∷ pos 2429 ∷ pos 3081 ∷ pos 1544 ∷ pos 1477 ∷ pos 3612 ∷ pos 3420 ∷ pos 1767 ∷ pos 2407 ∷ [])
    (pos 0 ∷ minus 296 ∷ minus 311 ∷ pos 0 ∷ pos 143 ∷ minus 1549 ∷ pos 0 ∷ pos 931 ∷ minus 228 ∷ [])
    (pos 0 ∷ pos 0 ∷ pos 0 ∷ pos 246 ∷ pos 681 ∷ minus 547 ∷ minus 1139 ∷ minus 322 ∷ pos 966 ∷ [])
    (zeros 72)
    -- tendencies in doubles, by their bits
    ∷ probes_grid (nine 0 false false) lent (zeros 9) (zeros 9) (zeros 9) (pos 0 ∷ pos 0 ∷ [])
    (4688493846294691840 ∷ 13914755537146216448 ∷ 4692646220676464640 ∷ 13917615023292678144 ∷ 4694642418396430336 ∷ 13918290192151609344 ∷ 4697090549755150336 ∷ 13919279752616607744 ∷ 4687568813418348544 ∷ [])
    (4808895513513410560 ∷ 14027764392989655040 ∷ 14027762225215176704 ∷ 4814820998546092032 ∷ 4800914876175712256 ∷ 14038765633677934592 ∷ 14033767407516282880 ∷ 4812015817677762560 ∷ 14026173406539776000 ∷ [])
    (4811504050679128064 ∷ 14029262118454444032 ∷ 14030057295740944384 ∷ 4803758138827702272 ∷ 4810356923140308992 ∷ 14032346143305809920 ∷ 14036732133133434880 ∷ 14029188645186584576 ∷ 4812329318340771840 ∷ [])
    ∷ probes_grid (nine 1 false true) lent_channel (zeros 9) (zeros 9) (zeros 9) (pos 0 ∷ pos 0 ∷ [])
    (4687417630569529344 ∷ 13913721309021339648 ∷ 4690770178961571840 ∷ 13917615023292678144 ∷ 4694642418396430336 ∷ 13918290192151609344 ∷ 4697337836792184832 ∷ 13919796866679046144 ∷ 4689784054470410240 ∷ [])
    (4808895689415786496 ∷ 14027764205492436992 ∷ 14027761758129946624 ∷ 4814820998546092032 ∷ 4800914876175712256 ∷ 14038765633677934592 ∷ 14033771102745894912 ∷ 4812016281870467072 ∷ 14026175699339345920 ∷ [])
    (0 ∷ 0 ∷ 0 ∷ 4803758237369696256 ∷ 4810356949643902976 ∷ 14032346232090836992 ∷ 14036730765768933376 ∷ 14029185505976172544 ∷ 4812333197587685376 ∷ [])
    ∷ probes_grid (nine 2 true true) lent_basin (zeros 9) (zeros 9) (zeros 9) (pos 0 ∷ pos 0 ∷ [])
    (4685699643651129344 ∷ 13913721309021339648 ∷ 4691629172420771840 ∷ 13915327626790043648 ∷ 4694642418396430336 ∷ 13920179977761849344 ∷ 4693993878334734336 ∷ 13919796866679046144 ∷ 4694694816997441536 ∷ [])
    (0 ∷ 14027763822589755392 ∷ 14027762765160628224 ∷ 0 ∷ 4800913520506617856 ∷ 14038766296116897792 ∷ 0 ∷ 4812015261900316672 ∷ 14026181846044344320 ∷ [])
    (0 ∷ 0 ∷ 0 ∷ 4803754609669472256 ∷ 4810356206219902976 ∷ 14032351063617748992 ∷ 14036732482732056576 ∷ 14029189921720172544 ∷ 4812330320432562176 ∷ [])
    ∷ probes_grid wide wide_vorticity (zeros 9) (zeros 9) (zeros 9) (pos 0 ∷ pos 1 ∷ [])
    (4745844715474124800 ∷ 13956757676198199296 ∷ 13969450050254798848 ∷ 4719414219949211648 ∷ 4731656237408583680 ∷ 4744292214476111872 ∷ 13958287223053877248 ∷ 13966776644086530048 ∷ 4732063396181049344 ∷ [])
    (14062036274660788458 ∷ 4842271875480815299 ∷ 14061943452835466200 ∷ 4836236843336218444 ∷ 4824903620520622704 ∷ 14061324310907613786 ∷ 14072941096518901074 ∷ 14049692768169643200 ∷ 14073783987594238481 ∷ [])
    (4828207137640758720 ∷ 4832847326292017600 ∷ 14073163329437294290 ∷ 14057403322022704004 ∷ 4832773716866934172 ∷ 4837101468671598146 ∷ 14071724763302457584 ∷ 14057175945622128664 ∷ 14072305561892418760 ∷ [])
    -- a step, and a run, that pass 2 stops
    ∷ steps (steep (pos 2000)) (zeros 2) (sevens 16) (pos 6 ∷ pos 2 ∷ pos 0 ∷ pos 1 ∷ []) (pos 1000 ∷ pos 2000 ∷ []) (zeros 2) (zeros 2) (zeros 16)
    ∷ runs (steep (pos 2000)) (zeros 2) 3 (sevens 16) (pos 6 ∷ pos 2 ∷ pos 0 ∷ pos 1 ∷ pos 0 ∷ []) (pos 1000 ∷ pos 2000 ∷ []) (zeros 2) (zeros 2) (zeros 16)
    ∷ []

-- ---- the paper's conditions on the weights, at six rows of unrelated numbers: 12 of (3.28), then 22 of (3.29), in the paper's order

abbrev printed : List ℤ
printed =
    minus 2998 ∷ minus 390 ∷ pos 2600 ∷ minus 8 ∷ pos 201997 ∷ minus 99903 ∷ pos 300000 ∷ minus 399963 ∷ minus 29703 ∷ minus 36003 ∷ pos 20017 ∷ pos 9998
    ∷ minus 4279 ∷ minus 98800 ∷ pos 100034 ∷ minus 39900 ∷ pos 31000 ∷ pos 9990 ∷ minus 20001 ∷ minus 301000 ∷ pos 399700 ∷ pos 199999 ∷ minus 100030 ∷ pos 10230 ∷ pos 1863 ∷ pos 31004
    ∷ pos 300700 ∷ pos 99971 ∷ minus 9930 ∷ minus 29003 ∷ minus 403800 ∷ minus 199984 ∷ minus 39840 ∷ minus 18004
    ∷ []

abbrev scaled : ℕ → ℕ → ℤ
scaled unit k = pos (unit * k)

pub conditions-agree : T (same_by eqℤ (conditions (scaled 1) (scaled 10) (scaled 100) (scaled 1000) (scaled 10000) (scaled 100000)) printed)
conditions-agree = tt

-- ---- the step program's limits, on inputs that take longer to compute

-- a grid that is too shallow everywhere
abbrev shallow : ℕ → ℕ → State
shallow w n = record { w = w; n = n; kind = 0; G = pos 1; c = pos 0; R = pos 1000; h = replicate (w * n) (pos 999); b = zeros (w * n); u = zeros (w * n); v = zeros (w * n); barriers = unbarred (w * n) }

-- case 10's record with m bytes for its depth, 52 + m in all
abbrev lengthened : ℕ → List ℕ
lengthened m = take 32 dock ++ (4 ∷ []) ++ bytes 2 m ++ replicate m 0 ++ drop 39 dock

-- room for 1,024 cells and no more, told before a value outside; 65,535 bytes and no more
abbrev pub program_limits : List Example
program_limits =
    prints (encode (shallow 32 32) (time_of 0 0)) "refused 4\n"
    ∷ prints (encode (shallow 41 25) (time_of 0 0)) "refused 8\n"
    ∷ prints (lengthened 65483) "refused 2\n"
    ∷ prints (lengthened 65484) "refused 7\n"
    ∷ []

pub all-agree : T (all holds (agreed ++ program_limits))
unfolding everything
all-agree = tt
