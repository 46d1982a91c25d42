mod Hundredths
