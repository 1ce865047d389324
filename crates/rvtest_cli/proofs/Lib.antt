mod RvtestReading
